-- Steps of a reader of pcapng files.
use Rattle.std.specs.Prelude.{◌≡◌, ◌+◌, ◌≤◌, ⊤, ℕ, List, length}
use Rattle.netlink_captures.specs.declared.captures.ByteOrder.{ByteOrder}
use Rattle.netlink_captures.specs.declared.pcapng.Content.{Content}
use Rattle.netlink_captures.specs.declared.pcapng.Content.TheVariants.{Captured}
use Rattle.netlink_captures.specs.declared.pcapng.PcapngReader.{PcapngReader}
use Rattle.netlink_captures.specs.Pcapng.{Block, HasContent, Position, after_block, block_at}
use Rattle.netlink_captures.specs.Pcapng.{position_of}

-- `next_block reader order bytes`: the block of these bytes, in this byte order, at the position of
-- the reader
abbrev pub next_block : PcapngReader → ByteOrder → List ℕ → Block
next_block reader order bytes = block_at (position_of reader) order bytes

-- `FitsBlock bytes content`: if the content is a packet, it is within the block of these bytes
abbrev pub FitsBlock : List ℕ → Content → Type 0
FitsBlock bytes (Captured slot) = slot.start + slot.count ≤ length bytes
FitsBlock bytes _ = ⊤

-- `MovesOver position bytes content position'`: the bytes at `position` are a valid block with this
-- content, and `position'` is the position after it
abbrev pub MovesOver : Position → List ℕ → Content → Position → Type 0
MovesOver position bytes content position' = (order : ByteOrder)
    × HasContent (block_at position order bytes) content
    × (position' ≡ after_block (block_at position order bytes) content)
