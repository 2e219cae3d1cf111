-- Laws of replies whose header is a record of a fixed size.
use Rattle.std.proofs.Common.{◌≡◌, ℕ, ◌≤◌, List, ◌++◌, length, Ok, arith}
use Rattle.netlink_core.specs.Layout.{Layout, parse_record}
use Rattle.netlink_core.specs.AttributeSet.{AttributeSet}
use Rattle.netlink_core.specs.ValueCodec.{value_codec}
use Rattle.netlink_core.specs.laws.ReplyObligations.{AttributeSetLaws, ResponseLaws}
use Rattle.netlink_core.specs.laws.LayoutObligations.{MeetsLayoutConditions, HasFixedSize}
use Rattle.netlink_core.proofs.LayoutLaws.{parsed_by_fields, layout_codec_laws}
use Rattle.netlink_core.proofs.PrefixCodecs.{is_prefix_codec}

module _ {Tag Value : Type 0} (layout : Layout (Unit {0}) Tag Value) {size : ℕ}
    (fixed : HasFixedSize layout size) where
  -- bytes with a valid header have at least `size` bytes
  pub header_bytes_suffice : (b : List ℕ) (h : Value) → parse_record layout tt b ≡ Ok h
      → size ≤ length b
  header_bytes_suffice b h e = let long = (parsed_by_fields layout tt b h e).long in
      omega (arith, long, fixed.0)

  -- the laws of a reply, if bytes after the header do not change its tag, and if the attribute set
  -- satisfies its laws
  pub response_laws : {F : AttributeSet} → MeetsLayoutConditions layout
      → ((tag : Tag) (left rest : List ℕ) → layout.least ≤ length left
      → layout.tag_for tt left ≡ Ok tag → layout.tag_for tt (left ++ rest) ≡ Ok tag)
      → AttributeSetLaws F → ResponseLaws (record {
        header = value_codec layout;
        size =
            size;
        attribute_set = F;
      })
  response_laws sound tag_ignores_suffix attribute_set_laws =
      grind (arith, layout_codec_laws, is_prefix_codec)
