use Rattle.std.proofs.Common.{◌≡◌, ◌+◌, ◌++◌, take, drop, length}
use Rattle.std.specs.List.{flat_map}
use Rattle.netlink_core.specs.Attribute.{AreWritable, attribute_bytes}
use Rattle.netlink_core.specs.Walk.{unread_bytes}
use Rattle.netlink_core.specs.AttributeSet.{decode_attribute}
use Rattle.attribute_lists.specs.AttributesIn.{HasNoAttributeError, decoded_in}
use Rattle.attribute_lists.specs.AttributesIn.{encoded_attributes_in}
use Rattle.attribute_lists.proofs.views.emit_views.Given as goal

-- the written bytes and the bytes of the remaining attributes are the whole, and the buffer after
-- the written bytes is unchanged
abbrev pub invariant-loop-view : goal.invariant-loop-view
invariant-loop-view g l =
    let left = encoded_attributes_in g.V.FamilyView.attribute_set (unread_bytes l.walk) in
    let all = encoded_attributes_in g.V.FamilyView.attribute_set l.bytes in
    record {
      clean : HasNoAttributeError (decode_attribute g.V.FamilyView.attribute_set)
          (unread_bytes l.walk);
      fits : AreWritable left;
      len : l.at + length (flat_map attribute_bytes left) ≡ length (flat_map attribute_bytes all);
      done : take l.at l.buffer ++ flat_map attribute_bytes left ≡ flat_map attribute_bytes all;
      left : drop l.at l.buffer ≡ drop l.at l.fn.buffer;
    }

abbrev pub decreases-loop-view : goal.decreases-loop-view
decreases-loop-view g l = length (decoded_in (decode_attribute g.V.FamilyView.attribute_set)
    (unread_bytes l.walk))
