use Rattle.std.proofs.Common.{◌≡◌, ◌+◌, ◌≤◌, length}
use Rattle.std.specs.Prelude.{◌↔◌}
use Rattle.std.specs.List.{AllByRecursion, flat_map}
use Rattle.netlink_core.specs.Attribute.{FitsLengthField, attribute_bytes}
use Rattle.netlink_core.specs.Walk.{unread_bytes}
use Rattle.netlink_core.specs.AttributeSet.{decode_attribute}
use Rattle.attribute_lists.specs.AttributesIn.{HasNoAttributeError, decoded_in}
use Rattle.attribute_lists.specs.AttributesIn.{encoded_attributes_in}
use Rattle.attribute_lists.proofs.views.views_len.Given as goal

-- the length so far and the length of the remaining attributes are the whole length, and all values
-- fit if and only if the remaining ones do
abbrev pub invariant-loop-view : goal.invariant-loop-view
invariant-loop-view g l =
    let left = encoded_attributes_in g.V.FamilyView.attribute_set (unread_bytes l.walk) in
    let all = encoded_attributes_in g.V.FamilyView.attribute_set l.bytes in
    record {
      clean : HasNoAttributeError (decode_attribute g.V.FamilyView.attribute_set)
          (unread_bytes l.walk);
      room : l.len ≤ 4294967295;
      fit : AllByRecursion FitsLengthField left ↔ AllByRecursion FitsLengthField all;
      len : l.len + length (flat_map attribute_bytes left)
          ≡ l.header_len + length (flat_map attribute_bytes all);
    }

abbrev pub decreases-loop-view : goal.decreases-loop-view
decreases-loop-view g l = length (decoded_in (decode_attribute g.V.FamilyView.attribute_set)
    (unread_bytes l.walk))
