-- Records with a layout that are followed by other bytes.
use Rattle.std.proofs.Common.{◌≡◌, ℕ, ◌≤◌, List, ◌++◌, length, Ok, arith}
use Rattle.std.proofs.lemmas.List.{length-append}
use Rattle.netlink_core.specs.Layout.{Layout}
use Rattle.netlink_core.specs.laws.LayoutObligations.{MeetsLayoutConditions, HasFixedSize}
use Rattle.netlink_core.specs.ValueCodec.{value_codec}
use Rattle.netlink_core.specs.laws.ReplyObligations.{IsPrefixCodec}
use Rattle.netlink_core.proofs.TableLaws.{consecutive_from_test, values-bytes_of}
use Rattle.netlink_core.proofs.LayoutLaws.{parses_by_fields, long_enough}

module _ {Tag Value : Type 0} (layout : Layout (Unit {0}) Tag Value)
    (sound : MeetsLayoutConditions layout) where
  -- a record of fixed size, whose tag does not depend on later bytes, round-trips also if other
  -- bytes follow
  pub is_prefix_codec : {size : ℕ} → HasFixedSize layout size
      → ((tag : Tag) (left rest : List ℕ) → layout.least ≤ length left
      → layout.tag_for tt left ≡ Ok tag → layout.tag_for tt (left ++ rest) ≡ Ok tag)
      → IsPrefixCodec (value_codec layout) size
  is_prefix_codec fixed goes_on =
      grind (
        arith,
        values-bytes_of 0,
        consecutive_from_test 0,
        long_enough,
        length-append,
        parses_by_fields,
      )
