-- Captures of netlink traffic, in the pcap or the pcapng format.
use Rattle.std.specs.Prelude.{◌≡◌, ℕ, ◌<◌, ◌≤◌, ◌⊎◌, List, [], ◌++◌, length, IsTrue}
use Rattle.std.specs.Io.KnownBytes.{IsAtEnd}
use Rattle.netlink_captures.specs.declared.captures.ByteOrder.{ByteOrder}
use Rattle.netlink_captures.specs.declared.captures.ByteOrder.TheVariants.{BigEndian, LittleEndian}
use Rattle.netlink_captures.specs.declared.captures.CaptureError.{CaptureError}
use Rattle.netlink_captures.specs.declared.captures.CaptureError.TheVariants as errors
use Rattle.netlink_captures.specs.declared.captures.FileHeader.{FileHeader}
use Rattle.netlink_captures.specs.declared.captures.TheConstants.{FILE_HEADER_LEN}
use Rattle.netlink_captures.specs.declared.pcapng.Content.{Content}
use Rattle.netlink_captures.specs.declared.reader.CaptureReader.{CaptureReader}
use Rattle.netlink_captures.specs.declared.reader.CaptureReader.TheVariants.{Pcap, Pcapng}
use Rattle.netlink_captures.specs.Capture.{CapturedPacket, HasPcapMagic, IsFileHeader}
use Rattle.netlink_captures.specs.Capture.{IsFileHeaderError, IsPacketRecord, IsPacketStop}
use Rattle.netlink_captures.specs.Capture.{IsRejectedByPcapMagic, StoppedInput}
use Rattle.netlink_captures.specs.Pcapng.{HasContent, IsBlockStop, IsEndOfBlocks, IsNextPacket}
use Rattle.netlink_captures.specs.Pcapng.{IsNextPacketStop, Position, after_block, block_at}
use Rattle.netlink_captures.specs.Pcapng.{is_section_header, position_of, start_of_file}

-- What a reader knows of a capture: the file header of a pcap file, or the position in a pcapng
-- file.
pub data CaptureState : Type 0 where
  in_pcap : FileHeader → CaptureState
  in_pcapng : Position → CaptureState

-- the state of a reader
abbrev pub state_of : CaptureReader → CaptureState
state_of (Pcap file) = in_pcap file
state_of (Pcapng reader) = in_pcapng (position_of reader)

-- `IsCaptureStart bytes state`: a capture begins with these bytes, and a reader that has read them
-- has this state. They are the file header of a pcap file, of 24 bytes, or the section header block
-- that a pcapng file begins with.
abbrev pub IsCaptureStart : List ℕ → CaptureState → Type 0
IsCaptureStart bytes (in_pcap file) = (length bytes ≡ FILE_HEADER_LEN) × IsFileHeader bytes file
IsCaptureStart bytes (in_pcapng position) = (order : ByteOrder) × (content : Content)
    × IsTrue (is_section_header bytes)
    × HasContent (block_at start_of_file order bytes) content
    × (position ≡ after_block (block_at start_of_file order bytes) content)

-- `HasMagic bytes`: the bytes begin with the type of a section header block, as a pcapng file does,
-- or with a magic number of pcap in either byte order
abbrev pub HasMagic : List ℕ → Type 0
HasMagic bytes =
    IsTrue (is_section_header bytes) ⊎ HasPcapMagic bytes BigEndian
    ⊎ HasPcapMagic bytes LittleEndian

-- `IsRejectedByMagic bytes e`: the bytes are rejected with `e`, since they begin neither as a
-- pcapng file does nor with a magic number of pcap
abbrev pub IsRejectedByMagic : List ℕ → CaptureError → Type 0
IsRejectedByMagic bytes e = (¬ IsTrue (is_section_header bytes)) × IsRejectedByPcapMagic bytes e

-- `IsEarlyReadStop input e`: `e` is the reason why reading stopped before the header of a capture
-- was complete:
-- - Empty: the input is at its end, without a byte
-- - TooShort: the input is at its end, after one to three bytes
-- - Truncated: the input is at its end, after at least four bytes, which begin with a known magic
--   number
-- - Read: a read failed with this error
-- - Compressed, NoCapture: the first four bytes are not a known magic number
--
-- Other errors are not possible (`⊥`).
abbrev pub IsEarlyReadStop : StoppedInput → CaptureError → Type 0
IsEarlyReadStop input errors.Empty = (input.part ≡ []) × IsAtEnd input.left
IsEarlyReadStop input errors.TooShort =
    (0 < length input.part) × (length input.part < 4) × IsAtEnd input.left
IsEarlyReadStop input errors.Truncated =
    (4 ≤ length input.part) × HasMagic input.part × IsAtEnd input.left
IsEarlyReadStop input (errors.Read error) = input.failed error
IsEarlyReadStop input (errors.Compressed compression) =
    (length input.part ≡ 4) × IsRejectedByMagic input.part (errors.Compressed compression)
IsEarlyReadStop input (errors.NoCapture magic) =
    (length input.part ≡ 4) × IsRejectedByMagic input.part (errors.NoCapture magic)
IsEarlyReadStop input _ = ⊥

-- `IsCaptureStartStop input e`: `e` is the reason why a capture could not be opened. There are
-- three cases:
-- - the bytes are fewer than the 24 of a file header of pcap, and reading stopped there
-- - the bytes are 24, and neither a file header of pcap nor the start of a pcapng file
-- - the bytes begin a pcapng file, and its section header block could not be read
abbrev pub IsCaptureStartStop : StoppedInput → CaptureError → Type 0
IsCaptureStartStop input e =
    ((length input.part < FILE_HEADER_LEN) × IsEarlyReadStop input e)
    ⊎ ((length input.part ≡ FILE_HEADER_LEN) × (¬ IsTrue (is_section_header input.part))
    × IsFileHeaderError input.part e)
    ⊎ (IsTrue (is_section_header input.part) × IsBlockStop start_of_file input e)

-- `ReadsPacket state bytes packet state'`: a reader in the state `state` that reads these bytes has
-- read this packet, and then has the state `state'`. In a pcap file they are its packet header and
-- its captured bytes. In a pcapng file they are some blocks without a packet, and a block with this
-- packet.
abbrev pub ReadsPacket : CaptureState → List ℕ → CapturedPacket → CaptureState → Type 0
ReadsPacket (in_pcap file) bytes packet state' =
    (header : List ℕ) × IsPacketRecord file header packet × (bytes ≡ header ++ packet.bytes)
    × (state' ≡ in_pcap file)
ReadsPacket (in_pcapng position) bytes packet state' =
    (after : Position) × IsNextPacket position bytes packet after × (state' ≡ in_pcapng after)

-- `IsCaptureEnd state bytes`: the bytes that a reader in this state has left contain no packet. In
-- a pcap file there are no such bytes. In a pcapng file they are zero or more blocks without a
-- packet.
abbrev pub IsCaptureEnd : CaptureState → List ℕ → Type 0
IsCaptureEnd (in_pcap file) bytes = bytes ≡ []
IsCaptureEnd (in_pcapng position) bytes =
    (after : Position) × IsEndOfBlocks position bytes after

-- `IsCaptureStop state input e`: `e` is the reason why no packet was read after the state
abbrev pub IsCaptureStop : CaptureState → StoppedInput → CaptureError → Type 0
IsCaptureStop (in_pcap file) input e = IsPacketStop file input e
IsCaptureStop (in_pcapng position) input e = IsNextPacketStop position input e
