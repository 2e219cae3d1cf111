-- Texts of the errors of a capture. Texts are lists of bytes.
use Rattle.std.specs.Prelude.{ℕ, List, ◌++◌, codes, decimal}
use Rattle.byteorder.specs.Endian.{big_bytes}
use Rattle.hex.specs.Hex.{encode_lower}
use Rattle.netlink_captures.specs.Compression.{compression_text}
use Rattle.program_streams.specs.Streams.{read_error_text}
use Rattle.netlink_captures.specs.declared.block_error.BlockError.{BlockError}
use Rattle.netlink_captures.specs.declared.block_error.BlockError.TheVariants as errors
use Rattle.netlink_captures.specs.declared.captures.CaptureError.{CaptureError}
use Rattle.netlink_captures.specs.declared.captures.CaptureError.TheVariants as capture_errors

-- The text of the reason why a block of a pcapng file is invalid. In the text of the error, the
-- offset of the block follows.
abbrev pub block_error_text : BlockError → List ℕ
block_error_text errors.Length = codes "invalid length of the block at offset "
block_error_text errors.EndLength = codes "two different lengths of the block at offset "
block_error_text errors.ByteOrderMagic = codes "unknown byte order of the section at offset "
block_error_text errors.Version =
    codes "unsupported pcapng version, expected 1, of the section at offset "
block_error_text errors.Options = codes "invalid options of the interface at offset "
block_error_text errors.Resolution = codes "unsupported time resolution of the interface at offset "
block_error_text errors.TooManyInterfaces =
    codes "more than 4096 interfaces in the section, at offset "
block_error_text errors.NoInterface = codes "unknown interface of the packet at offset "
block_error_text errors.CapturedLength = codes "invalid captured length of the packet at offset "
block_error_text errors.Time = codes "unsupported time (2106 or later) of the packet at offset "

-- The text of an error of a capture. A magic number is shown as eight hexadecimal digits, and other
-- numbers in decimal.
abbrev pub capture_error_text : CaptureError → List ℕ
capture_error_text (capture_errors.Read error) = read_error_text error
capture_error_text capture_errors.Memory = codes "out of memory"
capture_error_text capture_errors.Truncated =
    codes "the capture is truncated; if it is still being written, record it by tcpdump -U"
capture_error_text capture_errors.Empty =
    codes "the input is empty; the program that wrote it may have failed"
capture_error_text capture_errors.TooShort =
    codes "not a capture (pcap or pcapng, as tcpdump -w writes): it has fewer than 4 bytes"
capture_error_text (capture_errors.Compressed compression) = compression_text compression
capture_error_text (capture_errors.NoCapture magic) =
    codes "not a capture (pcap or pcapng, as tcpdump -w writes): it begins with 0x"
    ++ encode_lower (big_bytes 4 magic)
capture_error_text (capture_errors.OtherVersion version) =
    codes "unsupported pcap version " ++ decimal version ++ codes ", expected 2"
capture_error_text (capture_errors.OtherLinkType link_type) =
    codes "unsupported link type " ++ decimal link_type
    ++ codes ", expected 253 (netlink), as of nlmon0"
capture_error_text (capture_errors.PacketTooLong count) =
    codes "packet length " ++ decimal count ++ codes " exceeds the maximum of 262144"
capture_error_text capture_errors.AnotherCapture =
    codes "another capture begins here; list the files separately"
capture_error_text (capture_errors.Block offset error) = block_error_text error ++ decimal offset
