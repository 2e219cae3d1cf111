-- Captures of netlink traffic in the classic pcap format. Numbers in headers are in the byte order
-- of the file.
use Rattle.std.specs.Prelude.{◌≡◌, ◌≢◌, ℕ, ◌%◌, ◌<◌, ◌≤◌, ◌⊎◌, List, ◌++◌, length, drop, Option}
use Rattle.std.specs.Prelude.{None, Some, ◌==◌, if◌then◌else◌}
use Rattle.std.specs.Io.KnownBytes.{IsAtEnd}
use Rattle.byteorder.specs.Endian.{big_number, little_number}
use Rattle.program_streams.specs.declared.streams.ReadError.{ReadError}
use Rattle.netlink_captures.specs.declared.captures.ByteOrder.{ByteOrder}
use Rattle.netlink_captures.specs.declared.captures.ByteOrder.TheVariants.{LittleEndian, BigEndian}
use Rattle.netlink_captures.specs.declared.captures.CaptureError.{CaptureError}
use Rattle.netlink_captures.specs.declared.captures.CaptureError.TheVariants as errors
use Rattle.netlink_captures.specs.declared.captures.FileHeader.{FileHeader}
use Rattle.netlink_captures.specs.declared.captures.PacketHeader.{PacketHeader}
use Rattle.netlink_captures.specs.declared.captures.TheConstants as c
use Rattle.netlink_captures.specs.declared.captures.TimeUnit.{TimeUnit}
use Rattle.netlink_captures.specs.declared.captures.TimeUnit.TheVariants.{Microseconds, Nanoseconds}
use Rattle.netlink_captures.specs.Compression.{compression_of}

-- `number_at_offset order count offset bytes`: the number in the `count` bytes from `offset` on, in
-- this byte order
abbrev pub number_at_offset : ByteOrder → ℕ → ℕ → List ℕ → ℕ
number_at_offset LittleEndian count offset bytes = little_number count (drop offset bytes)
number_at_offset BigEndian count offset bytes = big_number count (drop offset bytes)

-- `u16_at order offset bytes`: the u16 at this offset in the bytes, in this byte order
abbrev pub u16_at : ByteOrder → ℕ → List ℕ → ℕ
u16_at order offset bytes = number_at_offset order 2 offset bytes

-- `u32_at order offset bytes`: the u32 at this offset in the bytes, in this byte order
abbrev pub u32_at : ByteOrder → ℕ → List ℕ → ℕ
u32_at order offset bytes = number_at_offset order 4 offset bytes

-- The number is a magic number of pcap: 0xa1b2c3d4 for timestamps in microseconds, 0xa1b23c4d for
-- nanoseconds.
abbrev pub IsPcapMagic : ℕ → Type 0
IsPcapMagic n = (n ≡ c.MAGIC_MICROSECONDS) ⊎ (n ≡ c.MAGIC_NANOSECONDS)

-- `HasPcapMagic bytes order`: the bytes begin with a magic number of pcap in this byte order
abbrev pub HasPcapMagic : List ℕ → ByteOrder → Type 0
HasPcapMagic bytes order = IsPcapMagic (u32_at order 0 bytes)

-- the bytes do not begin with a magic number of pcap in either byte order
abbrev pub HasNoPcapMagic : List ℕ → Type 0
HasNoPcapMagic bytes = ¬ HasPcapMagic bytes BigEndian × ¬ HasPcapMagic bytes LittleEndian

-- `unit_of magic`: the unit of the fraction of a second in the timestamps of a file with this magic
-- number: nanoseconds for 0xa1b23c4d, or else microseconds.
abbrev pub unit_of : ℕ → TimeUnit
unit_of magic = if magic == c.MAGIC_NANOSECONDS then Nanoseconds else Microseconds

-- `major_version order bytes`: the major version in a file header, the u16 at 4
abbrev pub major_version : ByteOrder → List ℕ → ℕ
major_version order bytes = u16_at order 4 bytes

-- `link_type_in order bytes`: the link type in a file header: the low 16 bits of the u32 at 20
abbrev pub link_type_in : ByteOrder → List ℕ → ℕ
link_type_in order bytes = u32_at order 20 bytes % c.LINK_TYPES

-- `IsFileHeader bytes h`: the first 24 bytes are a file header, and `h` is what is parsed from it:
-- its byte order and the unit of its timestamps. The magic number is at 0, the major version is 2,
-- and the link type is 253 (LINKTYPE_NETLINK). The minor version at 6 and the snapshot length at 16
-- can be any.
pub record IsFileHeader (bytes : List ℕ) (h : FileHeader) : Type 0 where
  pub magic : HasPcapMagic bytes h.order
  pub version : major_version h.order bytes ≡ c.MAJOR_VERSION
  pub link_type : link_type_in h.order bytes ≡ c.LINKTYPE_NETLINK
  pub unit : h.unit ≡ unit_of (u32_at h.order 0 bytes)

-- `IsNoCaptureError first e`: `e` is the error of a file that is not a capture. `first` are its
-- first four bytes, as a big-endian number. The error is Compressed with the format if the file is
-- in a format of compressed files, and else NoCapture with `first`.
abbrev pub IsNoCaptureError : ℕ → CaptureError → Type 0
IsNoCaptureError first (errors.Compressed compression) = compression_of first ≡ Some compression
IsNoCaptureError first (errors.NoCapture magic) = (magic ≡ first) × (compression_of first ≡ None)
IsNoCaptureError first _ = ⊥

-- `IsRejectedByPcapMagic bytes e`: the bytes are rejected with `e`, since they do not begin with a
-- magic number of pcap
abbrev pub IsRejectedByPcapMagic : List ℕ → CaptureError → Type 0
IsRejectedByPcapMagic bytes e =
    IsNoCaptureError (u32_at BigEndian 0 bytes) e × HasNoPcapMagic bytes

-- `IsFileHeaderError bytes e`: the bytes are not a file header, and `e` is their first error: an
-- unknown magic number (Compressed, NoCapture); or else a major version that is not 2
-- (OtherVersion); or else a link type that is not 253 (OtherLinkType). No other error is possible
-- (`⊥`).
abbrev pub IsFileHeaderError : List ℕ → CaptureError → Type 0
IsFileHeaderError bytes (errors.Compressed compression) =
    IsRejectedByPcapMagic bytes (errors.Compressed compression)
IsFileHeaderError bytes (errors.NoCapture magic) =
    IsRejectedByPcapMagic bytes (errors.NoCapture magic)
IsFileHeaderError bytes (errors.OtherVersion version) =
    (order : ByteOrder) × HasPcapMagic bytes order
    × (version ≡ major_version order bytes) × (version ≢ c.MAJOR_VERSION)
IsFileHeaderError bytes (errors.OtherLinkType link_type) =
    (order : ByteOrder) × HasPcapMagic bytes order
    × (major_version order bytes ≡ c.MAJOR_VERSION)
    × (link_type ≡ link_type_in order bytes) × (link_type ≢ c.LINKTYPE_NETLINK)
IsFileHeaderError bytes _ = ⊥

-- `captured_length file header`: the captured length in a packet header of this file, the u32 at 8:
-- the number of the packet's bytes in the file.
abbrev pub captured_length : FileHeader → List ℕ → ℕ
captured_length file header = u32_at file.order 8 header

-- `packet_header_fields file header`: the fields of a packet header of this file, which has 16
-- bytes: the seconds of the capture time at 0, the fraction of a second at 4, in the unit of the
-- file, and the original length of the packet at 12.
abbrev pub packet_header_fields : FileHeader → List ℕ → PacketHeader
packet_header_fields file header = record {
  seconds = u32_at file.order 0 header;
  fraction = u32_at file.order 4 header;
  unit = file.unit;
  whole_length = u32_at file.order 12 header;
}

-- A packet as it was captured: its captured bytes, and the fields of its header. The bytes are
-- fewer than the original length `header.whole_length` if the packet was truncated to the snapshot
-- length.
pub record CapturedPacket : Type 0 where
  -- the captured bytes, from the cooked header on
  pub bytes : List ℕ
  -- the fields of the packet header
  pub header : PacketHeader

-- `captured_packet bytes header`: the packet with these captured bytes and these header fields
abbrev pub captured_packet : List ℕ → PacketHeader → CapturedPacket
captured_packet bytes header = record { bytes = bytes; header = header }

-- `BeginsCapture file header`: the 16 bytes `header`, where a packet header of this file is
-- expected, begin another pcap file: they have a magic number in either byte order at 0, and 0 at
-- 8. A file header has its time zone at 8, and a packet header its captured length. So no packet
-- that has bytes begins like this.
abbrev pub BeginsCapture : FileHeader → List ℕ → Type 0
BeginsCapture file header =
    (HasPcapMagic header BigEndian ⊎ HasPcapMagic header LittleEndian)
    × (captured_length file header ≡ 0)

-- `IsPacketRecord file header packet`: the 16 bytes `header` are the packet header of the packet,
-- in a file with this file header. The captured length in the header is the number of the packet's
-- bytes, at most 262144. The other fields of the header are `packet.header`. The header does not
-- begin another capture.
pub record IsPacketRecord (file : FileHeader) (header : List ℕ)
    (packet : CapturedPacket) : Type 0 where
  pub whole : length header ≡ c.PACKET_HEADER_LEN
  pub count : captured_length file header ≡ length packet.bytes
  pub fields : packet.header ≡ packet_header_fields file header
  -- the limit of the reader, whatever the snapshot length in the file header
  pub within : length packet.bytes ≤ c.MAX_PACKET_LEN
  pub no_capture : ¬ BeginsCapture file header

-- ---- states of the input when reading stops

-- an input at which reading stopped
pub record StoppedInput : Type 1 where
  -- the remaining bytes, if known
  pub left : Option (List ℕ)
  -- a read failed with this error
  pub failed : ReadError → Type 0
  -- the bytes that were read of what could not be read whole
  pub part : List ℕ

-- `stopped_input left failed part`: the input with these members
abbrev pub stopped_input : Option (List ℕ) → (ReadError → Type 0) → List ℕ → StoppedInput
stopped_input left failed part = record { left = left; failed = failed; part = part }

-- `IsInputStop input e`: `e` is the reason why no more bytes were read: the input is at its end
-- (Truncated), or a read failed (Read). Other errors are not possible (`⊥`).
abbrev pub IsInputStop : StoppedInput → CaptureError → Type 0
IsInputStop input errors.Truncated = IsAtEnd input.left
IsInputStop input (errors.Read error) = input.failed error
IsInputStop input _ = ⊥

-- `IsPartOfPacket file part`: `part` is a proper prefix of a packet with its packet header: fewer
-- than 16 bytes; or a packet header of 16 bytes, and then fewer bytes than its captured length.
abbrev pub IsPartOfPacket : FileHeader → List ℕ → Type 0
IsPartOfPacket file part =
    (length part < c.PACKET_HEADER_LEN)
    ⊎ ((header : List ℕ) × (captured : List ℕ) × (part ≡ header ++ captured)
    × (length header ≡ c.PACKET_HEADER_LEN) × (length captured < captured_length file header))

-- `IsPacketStop file input e`: `e` is the reason why no packet of this file was read. `input.part`
-- is what was read:
-- - Truncated: a proper prefix of a packet, of at least one byte; the input is at its end
-- - Read: a proper prefix of a packet; a read failed with this error
-- - Memory: a packet header with a captured length of at most 262144; an allocation failed
-- - PacketTooLong: a packet header with this captured length, which is greater than 262144
-- - AnotherCapture: the first 16 bytes of another pcap file
--
-- Other errors are not possible (`⊥`).
abbrev pub IsPacketStop : FileHeader → StoppedInput → CaptureError → Type 0
IsPacketStop file input errors.Truncated =
    (0 < length input.part) × IsPartOfPacket file input.part × IsAtEnd input.left
IsPacketStop file input (errors.Read error) = IsPartOfPacket file input.part × input.failed error
IsPacketStop file input errors.Memory =
    (length input.part ≡ c.PACKET_HEADER_LEN)
    × (captured_length file input.part ≤ c.MAX_PACKET_LEN)
IsPacketStop file input (errors.PacketTooLong count) =
    (length input.part ≡ c.PACKET_HEADER_LEN) × (count ≡ captured_length file input.part)
    × (c.MAX_PACKET_LEN < count)
IsPacketStop file input errors.AnotherCapture =
    (length input.part ≡ c.PACKET_HEADER_LEN) × BeginsCapture file input.part
IsPacketStop file input _ = ⊥
