-- Captures of netlink traffic in the pcapng format (draft-ietf-opsawg-pcapng). A file is a sequence
-- of blocks, and a section header begins a section. Numbers are in the byte order of the section. A
-- block has its type at 0 and its length in bytes at 4, both u32, and again its length in its last
-- four bytes. Offsets are those in a block. The blocks that matter here:
--
--   type        block                  at 8                    then
--   0x0a0d0d0a  section header         byte-order magic (u32)  major version (u16) at 12
--   1           interface description  link type (u16)         snapshot length (u32) at 12,
--                                                              options from 16 on
--   2           packet (obsolete)      interface (u16)         as in an enhanced packet
--   3           simple packet          original length (u32)   packet from 12 on
--   6           enhanced packet        interface (u32)         high and low half of the timestamp
--                                                              at 12 and 16, captured length at 20,
--                                                              original length at 24 (all u32),
--                                                              packet from 28 on
--
-- All other blocks are skipped, and so are the options of all blocks but interface descriptions.
use Rattle.std.specs.Prelude.{◌≡◌, ⊤, ℕ, zero, suc, ◌+◌, ◌-◌, ◌*◌, ◌/◌, ◌%◌, ◌^◌, ◌<◌, ◌≤◌, ◌⊎◌}
use Rattle.std.specs.Prelude.{◌==◌, ◌&&◌, nat_lt, nat_le, if◌then◌else◌, Bool, List, [], ◌∷◌, ◌++◌}
use Rattle.std.specs.Prelude.{length, drop, slice_range, slice_get, slice_index, Option, None, Some}
use Rattle.std.specs.Prelude.{Result, Ok, Err, min}
use Rattle.std.specs.List.{concat}
use Rattle.netlink_captures.specs.declared.block_error.BlockError.{BlockError}
use Rattle.netlink_captures.specs.declared.block_error.BlockError.TheVariants as errors
use Rattle.netlink_captures.specs.declared.captures.ByteOrder.{ByteOrder}
use Rattle.netlink_captures.specs.declared.captures.ByteOrder.TheVariants.{LittleEndian, BigEndian}
use Rattle.netlink_captures.specs.declared.captures.CaptureError.{CaptureError}
use Rattle.netlink_captures.specs.declared.captures.CaptureError.TheVariants as capture_errors
use Rattle.netlink_captures.specs.declared.captures.TheConstants.{LINKTYPE_NETLINK, MAX_PACKET_LEN}
use Rattle.netlink_captures.specs.declared.captures.TimeUnit.{TimeUnit}
use Rattle.netlink_captures.specs.declared.captures.TimeUnit.TheVariants.{Microseconds, Nanoseconds}
use Rattle.netlink_captures.specs.declared.pcapng.Interface.{Interface}
use Rattle.netlink_captures.specs.declared.pcapng.PacketSlot.{PacketSlot}
use Rattle.netlink_captures.specs.declared.pcapng.Content.{Content}
use Rattle.netlink_captures.specs.declared.pcapng.Content.TheVariants.{SectionHeader, Described}
use Rattle.netlink_captures.specs.declared.pcapng.Content.TheVariants.{Captured, Skipped}
use Rattle.netlink_captures.specs.declared.pcapng.PcapngReader.{PcapngReader}
use Rattle.netlink_captures.specs.declared.pcapng.TheConstants as c
use Rattle.netlink_captures.specs.Capture.{u16_at, u32_at, CapturedPacket, captured_packet}
use Rattle.netlink_captures.specs.Capture.{IsInputStop, StoppedInput}

-- What a reader knows after some blocks: the byte order of the section, the interfaces that the
-- section has described so far, in order, and the offset of the next block in the file.
pub record Position : Type 0 where
  pub order : ByteOrder
  pub interfaces : List Interface
  pub offset : ℕ

-- the position of a reader
abbrev pub position_of : PcapngReader → Position
position_of reader = record {
  order = reader.order;
  interfaces = reader.interfaces.items;
  offset = reader.offset;
}

-- the position before the first block; a section header follows, which has its own byte order, so
-- the byte order here can be any
abbrev pub start_of_file : Position
start_of_file = record { order = LittleEndian; interfaces = []; offset = 0 }

-- a block that is parsed: the position before it, its byte order, and its bytes
pub record Block : Type 0 where
  pub position : Position
  pub order : ByteOrder
  pub bytes : List ℕ

-- `block_at position order bytes`: the block of these bytes, in this byte order, at this position
abbrev pub block_at : Position → ByteOrder → List ℕ → Block
block_at position order bytes = record { position = position; order = order; bytes = bytes }

-- `u16_in block offset`: the u16 at this offset in the block
abbrev pub u16_in : Block → ℕ → ℕ
u16_in block offset = u16_at block.order offset block.bytes

-- `u32_in block offset`: the u32 at this offset in the block
abbrev pub u32_in : Block → ℕ → ℕ
u32_in block offset = u32_at block.order offset block.bytes

-- `invalid_block position reason`: the error of the block at this position, which is invalid for
-- this reason
abbrev pub invalid_block : Position → BlockError → CaptureError
invalid_block position reason = capture_errors.Block position.offset reason

-- ---- the byte order and the length of a block

-- `is_section_header bytes`: the block of these bytes is a section header: its type is 0x0a0d0d0a,
-- which is the same number in both byte orders
abbrev pub is_section_header : List ℕ → Bool
is_section_header bytes = u32_at BigEndian 0 bytes == c.SECTION_HEADER

-- `order_by_magic bytes`: the byte order in which the byte-order magic of a section header, the u32
-- at 8, is 0x1a2b3c4d, if there is one
abbrev pub order_by_magic : List ℕ → Option ByteOrder
order_by_magic bytes =
    if u32_at LittleEndian 8 bytes == c.BYTE_ORDER_MAGIC then Some LittleEndian
    else if u32_at BigEndian 8 bytes == c.BYTE_ORDER_MAGIC then Some BigEndian else None

-- `order_of_block section_order bytes`: the byte order of the block of these bytes: for a section
-- header by its byte-order magic, for any other block that of the section
abbrev pub order_of_block : ByteOrder → List ℕ → Option ByteOrder
order_of_block section_order bytes =
    if is_section_header bytes then order_by_magic bytes else Some section_order

-- `block_length order bytes`: the length of the block that begins with these bytes, the u32 at 4
abbrev pub block_length : ByteOrder → List ℕ → ℕ
block_length order bytes = u32_at order 4 bytes

-- `is_block_length offset n`: a block at this offset in the file may have `n` bytes. It has at
-- least 12 and at most 16777216 bytes, a multiple of 4, and ends at an offset that fits 64 bits.
abbrev pub is_block_length : ℕ → ℕ → Bool
is_block_length offset n =
    nat_le c.MIN_BLOCK_LEN n && nat_le n c.MAX_BLOCK_LEN && (n % 4 == 0)
    && nat_lt (offset + n) (2 ^ 64)

-- `order_or_error position bytes found`: the byte order of the block that begins with these bytes,
-- if it was found and the length of the block, read in this order, is valid; or else the error
abbrev pub order_or_error : Position → List ℕ → Option ByteOrder → Result ByteOrder CaptureError
order_or_error position bytes None = Err (invalid_block position errors.ByteOrderMagic)
order_or_error position bytes (Some order) =
    if is_block_length position.offset (block_length order bytes) then Ok order
    else Err (invalid_block position errors.Length)

-- `checked_order position bytes`: the byte order of the block that begins with these bytes, if it
-- is known and the length of the block is valid, or else the error. It depends on the first 12
-- bytes only.
abbrev pub checked_order : Position → List ℕ → Result ByteOrder CaptureError
checked_order position bytes =
    order_or_error position bytes (order_of_block position.order bytes)

-- ---- interfaces

-- `unit_by_resolution value`: the unit of timestamps by the value of the option if_tsresol: 6 for
-- microseconds (10^-6 seconds), 9 for nanoseconds (10^-9 seconds); other values are not supported
abbrev pub unit_by_resolution : ℕ → Result TimeUnit BlockError
unit_by_resolution value =
    if value == 6 then Ok Microseconds
    else if value == 9 then Ok Nanoseconds else Err errors.Resolution

-- `option_code order options`: the code of the option that the bytes begin with, at 0
abbrev pub option_code : ByteOrder → List ℕ → ℕ
option_code order options = u16_at order 0 options

-- `option_value_length order options`: the length of the value of the option that the bytes begin
-- with, at 2
abbrev pub option_value_length : ByteOrder → List ℕ → ℕ
option_value_length order options = u16_at order 2 options

-- `option_size order options`: the length of the option that the bytes begin with: 4 bytes of its
-- code and of the length of its value, and its value from 4 on, padded to a multiple of 4 bytes
abbrev pub option_size : ByteOrder → List ℕ → ℕ
option_size order options = 4 + (option_value_length order options + 3) / 4 * 4

-- `unit_in_option order options`: the unit in the option if_tsresol that the bytes begin with. Its
-- value, at 4, has one byte; any other length is an error.
abbrev pub unit_in_option : ByteOrder → List ℕ → Result TimeUnit BlockError
unit_in_option order options =
    if option_value_length order options == 1 then unit_by_resolution (slice_index options 4)
    else Err errors.Options

-- `unit_or_next order options next`: the unit of timestamps by these options. If the first one is
-- if_tsresol (code 9), it has the unit. If there is none (no bytes, or the code 0, which ends the
-- options), the unit is microseconds. If it is another option, the result is `next`: the unit by
-- the remaining options. An option that is longer than the remaining bytes is an error.
abbrev pub unit_or_next : ByteOrder → List ℕ → Result TimeUnit BlockError
    → Result TimeUnit BlockError
unit_or_next order options next =
    if length options == 0 then Ok Microseconds
    else if nat_lt (length options) 4 then Err errors.Options
    else if option_code order options == c.END_OF_OPTIONS then Ok Microseconds
    else if nat_lt (length options) (option_size order options) then Err errors.Options
    else if option_code order options == c.TIME_RESOLUTION then unit_in_option order options
    else next

-- `unit_in count order options`: the unit of timestamps by these options, of which at most `count`
-- are parsed: `count` bounds the recursion
unfoldable pub unit_in : ℕ → ByteOrder → List ℕ → Result TimeUnit BlockError
unit_in zero order options = Ok Microseconds
unit_in (suc count) order options =
    unit_or_next order options (unit_in count order (drop (option_size order options) options))

-- `unit_by_options order options`: the unit of timestamps by these options. All of them are parsed,
-- since there are never more options than bytes.
abbrev pub unit_by_options : ByteOrder → List ℕ → Result TimeUnit BlockError
unit_by_options order options = unit_in (length options) order options

-- `options_of block`: the options of an interface description: the bytes from 16 on, without the
-- length in the last four bytes
abbrev pub options_of : Block → List ℕ
options_of block = slice_range block.bytes 16 (length block.bytes - 4)

-- `interface_or_error block unit`: the content of an interface description whose options have this
-- unit of timestamps, or the error of its options
abbrev pub interface_or_error : Block → Result TimeUnit BlockError → Result Content CaptureError
interface_or_error block (Err reason) = Err (invalid_block block.position reason)
interface_or_error block (Ok unit) = Ok (Described (record {
  link_type = u16_in block 8;
  snap_length = u32_in block 12;
  unit = unit;
}))

-- `interface_in block`: the content of an interface description, or its error. It has at least 20
-- bytes, and a section has at most 4096 interfaces.
abbrev pub interface_in : Block → Result Content CaptureError
interface_in block =
    if nat_lt (length block.bytes) c.MIN_INTERFACE_LEN
    then Err (invalid_block block.position errors.Length)
    else if nat_le c.MAX_INTERFACES (length block.position.interfaces)
    then Err (invalid_block block.position errors.TooManyInterfaces)
    else interface_or_error block (unit_by_options block.order (options_of block))

-- ---- packets

-- `netlink_or_error position found`: the interface of a packet, if it was `found` in the section
-- and has the link type 253 (LINKTYPE_NETLINK). Or else the error: NoInterface of the block at this
-- position, or OtherLinkType.
abbrev pub netlink_or_error : Position → Option Interface → Result Interface CaptureError
netlink_or_error position None = Err (invalid_block position errors.NoInterface)
netlink_or_error position (Some interface) =
    if interface.link_type == LINKTYPE_NETLINK then Ok interface
    else Err (capture_errors.OtherLinkType interface.link_type)

-- `interface_of position number`: the interface with this number, from 0 on, if the section has
-- described it and it has the link type 253; or else the error, as in `netlink_or_error`
abbrev pub interface_of : Position → ℕ → Result Interface CaptureError
interface_of position number = netlink_or_error position (slice_get position.interfaces number)

-- `packet_in position bytes slot`: the packet in this slot of the block of these bytes, if it has
-- at most 262144 bytes, and they end before the last four bytes of the block, which have its
-- length. Or else the error: PacketTooLong, or CapturedLength of the block at this position.
abbrev pub packet_in : Position → List ℕ → PacketSlot → Result Content CaptureError
packet_in position bytes slot =
    if nat_lt MAX_PACKET_LEN slot.count then Err (capture_errors.PacketTooLong slot.count)
    else if nat_lt (length bytes) (slot.start + slot.count + 4)
    then Err (invalid_block position errors.CapturedLength)
    else Ok (Captured slot)

-- `units_in_second unit`: the number of units in a second
abbrev pub units_in_second : TimeUnit → ℕ
units_in_second Microseconds = 1000000
units_in_second Nanoseconds = 1000000000

-- `timed_packet block unit timestamp`: the packet in an enhanced packet block, or its error. The
-- timestamp is read as the number of units since 1970 (UTC): an offset of the interface, in seconds
-- (option if_tsoffset), is ignored. Its seconds have to fit 32 bits. The captured length is at 20,
-- the original length at 24, and the packet from 28 on.
abbrev pub timed_packet : Block → TimeUnit → ℕ → Result Content CaptureError
timed_packet block unit timestamp =
    if nat_lt (timestamp / units_in_second unit) (2 ^ 32)
    then packet_in block.position block.bytes (record {
      header = record {
        seconds = timestamp / units_in_second unit;
        fraction = timestamp % units_in_second unit;
        unit = unit;
        whole_length = u32_in block 24;
      };
      start = c.ENHANCED_PACKET_START;
      count = u32_in block 20;
    })
    else Err (invalid_block block.position errors.Time)

-- `enhanced_or_error block interface`: the packet in an enhanced packet block of this interface, or
-- the error of the interface. The high 32 bits of the timestamp are at 12, and the low 32 bits at
-- 16.
abbrev pub enhanced_or_error : Block → Result Interface CaptureError → Result Content CaptureError
enhanced_or_error block (Err e) = Err e
enhanced_or_error block (Ok interface) =
    timed_packet block interface.unit (u32_in block 12 * 2 ^ 32 + u32_in block 16)

-- `enhanced_packet_in block number`: the content of an enhanced or an obsolete packet block of the
-- interface with this number, or its error. The block has at least 32 bytes.
abbrev pub enhanced_packet_in : Block → ℕ → Result Content CaptureError
enhanced_packet_in block number =
    if nat_lt (length block.bytes) c.MIN_ENHANCED_PACKET_LEN
    then Err (invalid_block block.position errors.Length)
    else enhanced_or_error block (interface_of block.position number)

-- `simple_captured snap_length original`: the captured length of a simple packet: the smaller of
-- its original length and the snapshot length of its interface. The snapshot length 0 means no
-- limit.
abbrev pub simple_captured : ℕ → ℕ → ℕ
simple_captured snap_length original =
    if snap_length == 0 then original else min original snap_length

-- `simple_or_error block interface`: the packet in a simple packet block of this interface, or the
-- error of the interface. The original length is at 8. The block has no timestamp; it counts as 0.
abbrev pub simple_or_error : Block → Result Interface CaptureError → Result Content CaptureError
simple_or_error block (Err e) = Err e
simple_or_error block (Ok interface) = packet_in block.position block.bytes (record {
  header = record {
    seconds = 0;
    fraction = 0;
    unit = interface.unit;
    whole_length = u32_in block 8;
  };
  start = c.SIMPLE_PACKET_START;
  count = simple_captured interface.snap_length (u32_in block 8);
})

-- `simple_packet_in block`: the content of a simple packet block, or its error. The block has at
-- least 16 bytes. It has no interface number: its interface is the first one of the section (0).
abbrev pub simple_packet_in : Block → Result Content CaptureError
simple_packet_in block =
    if nat_lt (length block.bytes) c.MIN_SIMPLE_PACKET_LEN
    then Err (invalid_block block.position errors.Length)
    else simple_or_error block (interface_of block.position 0)

-- ---- contents of blocks

-- `section_header_in block`: the content of a section header, or its error. It has at least 28
-- bytes, and the major version 1 at 12.
abbrev pub section_header_in : Block → Result Content CaptureError
section_header_in block =
    if nat_lt (length block.bytes) c.MIN_SECTION_HEADER_LEN
    then Err (invalid_block block.position errors.Length)
    else if u16_in block 12 == c.MAJOR_VERSION then Ok SectionHeader
    else Err (invalid_block block.position errors.Version)

-- the type of a block, at 0
abbrev pub block_type : Block → ℕ
block_type block = u32_in block 0

-- `content_by_type block`: the content of a block that is not a section header, or its error. The
-- interface number at 8 is a u16 in an obsolete packet, and a u32 in an enhanced packet.
abbrev pub content_by_type : Block → Result Content CaptureError
content_by_type block =
    if block_type block == c.INTERFACE_DESCRIPTION then interface_in block
    else if block_type block == c.OBSOLETE_PACKET then enhanced_packet_in block (u16_in block 8)
    else if block_type block == c.SIMPLE_PACKET then simple_packet_in block
    else if block_type block == c.ENHANCED_PACKET then enhanced_packet_in block (u32_in block 8)
    else Ok Skipped

-- `content_of block`: the content of a whole block, or its error. The u32 in its last four bytes
-- has to be its length.
abbrev pub content_of : Block → Result Content CaptureError
content_of block =
    if u32_in block (length block.bytes - 4) == length block.bytes
    then (if is_section_header block.bytes then section_header_in block else content_by_type block)
    else Err (invalid_block block.position errors.EndLength)

-- `IsWholeBlock block`: the block is whole: it has at least 12 bytes, its byte order and its length
-- are valid, and it has as many bytes as its length
pub record IsWholeBlock (block : Block) : Type 0 where
  pub long : c.MIN_BLOCK_LEN ≤ length block.bytes
  pub ordered : checked_order block.position block.bytes ≡ Ok block.order
  pub whole : block_length block.order block.bytes ≡ length block.bytes

-- `HasContent block content`: the block is whole and valid, and has this content
pub record HasContent (block : Block) (content : Content) : Type 0 where
  pub is_whole : IsWholeBlock block
  pub valid : content_of block ≡ Ok content

-- `interfaces_after interfaces content`: the interfaces of the section after a block with this
-- content, if `interfaces` are those before it: none after a section header, one more after an
-- interface description, and the same after any other block
abbrev pub interfaces_after : List Interface → Content → List Interface
interfaces_after interfaces SectionHeader = []
interfaces_after interfaces (Described interface) = interfaces ++ interface ∷ []
interfaces_after interfaces _ = interfaces

-- `after_block block content`: the position after the block, which has this content
abbrev pub after_block : Block → Content → Position
after_block block content = record {
  order = block.order;
  interfaces = interfaces_after block.position.interfaces content;
  offset = block.position.offset + length block.bytes;
}

-- ---- packets in a file

-- the content is not a packet
abbrev pub IsNoPacket : Content → Type 0
IsNoPacket (Captured slot) = ⊥
IsNoPacket _ = ⊤

-- `AreSkipped position blocks position'`: the blocks from `position` on are valid and have no
-- packet, and `position'` is the position after them. Each has some byte order and some content.
abbrev pub AreSkipped : Position → List (List ℕ) → Position → Type 0
AreSkipped position [] position' = position' ≡ position
AreSkipped position (bytes ∷ blocks) position' = (order : ByteOrder) × (content : Content)
    × HasContent (block_at position order bytes) content × IsNoPacket content
    × AreSkipped (after_block (block_at position order bytes) content) blocks position'

-- `packet_in_slot slot bytes`: the packet in this slot of the block of these bytes: `slot.count`
-- bytes from `slot.start` on
abbrev pub packet_in_slot : PacketSlot → List ℕ → CapturedPacket
packet_in_slot slot bytes =
    captured_packet (slice_range bytes slot.start (slot.start + slot.count)) slot.header

-- `IsNextPacket position bytes packet position'`: the bytes from `position` on are some blocks
-- without a packet, and a block with this packet. `position'` is the position after them.
pub record IsNextPacket (position : Position) (bytes : List ℕ) (packet : CapturedPacket)
    (position' : Position) : Type 0 where
  -- the blocks before the one with the packet
  pub blocks : List (List ℕ)
  -- the block with the packet
  pub block : Block
  pub skipped : AreSkipped position blocks block.position
  pub parts : bytes ≡ concat blocks ++ block.bytes
  -- the header, the offset and the length of the packet in the block
  pub slot : PacketSlot
  pub found : HasContent block (Captured slot)
  pub captured : packet ≡ packet_in_slot slot block.bytes
  pub after : position' ≡ after_block block (Captured slot)

-- `IsEndOfBlocks position bytes position'`: the bytes from `position` on are some blocks without a
-- packet, as those after the last packet of a capture are. `position'` is the position after them.
abbrev pub IsEndOfBlocks : Position → List ℕ → Position → Type 0
IsEndOfBlocks position bytes position' =
    (blocks : List (List ℕ)) × AreSkipped position blocks position' × (bytes ≡ concat blocks)

-- ---- states of the input when reading stops

-- `HasCheckedOrder position bytes`: the byte order of the block that begins with these bytes is
-- known, and its length field is valid (`checked_order`)
abbrev pub HasCheckedOrder : Position → List ℕ → Type 0
HasCheckedOrder position bytes = (order : ByteOrder) × (checked_order position bytes ≡ Ok order)

-- `IsPartOfBlock position part`: `part` is a proper prefix of a block at this position: fewer than
-- 12 bytes; or bytes with a valid byte order and length, but fewer than this length
abbrev pub IsPartOfBlock : Position → List ℕ → Type 0
IsPartOfBlock position part =
    (length part < c.MIN_BLOCK_LEN)
    ⊎ ((order : ByteOrder) × (checked_order position part ≡ Ok order)
    × (length part < block_length order part))

-- `IsStopInBlock position input e`: `e` is the reason why no whole block was read at this position.
-- `input.part` is what was read:
-- - a proper prefix of a block, after which the input is at its end, or a read failed; it is not
--   empty if the input is at its end
-- - at least 12 bytes, with a valid byte order and length; then an allocation failed (Memory)
-- - 12 bytes, whose byte order or length is invalid
abbrev pub IsStopInBlock : Position → StoppedInput → CaptureError → Type 0
IsStopInBlock position input e =
    (IsPartOfBlock position input.part × (e ≡ capture_errors.Truncated → 0 < length input.part)
    × IsInputStop input e)
    ⊎ ((c.MIN_BLOCK_LEN ≤ length input.part) × HasCheckedOrder position input.part
    × (e ≡ capture_errors.Memory))
    ⊎ ((length input.part ≡ c.MIN_BLOCK_LEN) × (checked_order position input.part ≡ Err e))

-- `IsBlockStop position input e`: `e` is the reason why no block was read at this position. Either
-- it was not read whole, or it was, and its content is invalid.
abbrev pub IsBlockStop : Position → StoppedInput → CaptureError → Type 0
IsBlockStop position input e =
    IsStopInBlock position input e
    ⊎ ((order : ByteOrder) × IsWholeBlock (block_at position order input.part)
    × (content_of (block_at position order input.part) ≡ Err e))

-- `IsNextPacketStop position input e`: `e` is the reason why no packet was read after this
-- position. `input.part` is what was read: some valid blocks without a packet, and the bytes of the
-- block that could not be read.
pub record IsNextPacketStop (position : Position) (input : StoppedInput) (e : CaptureError)
    : Type 0 where
  -- the valid blocks
  pub blocks : List (List ℕ)
  -- the position after them
  pub position' : Position
  pub skipped : AreSkipped position blocks position'
  -- the bytes of the block that could not be read
  pub part : List ℕ
  pub parts : input.part ≡ concat blocks ++ part
  pub stopped : IsBlockStop position' (record input { part = part }) e
