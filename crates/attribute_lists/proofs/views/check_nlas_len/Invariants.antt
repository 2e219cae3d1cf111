use Rattle.std.proofs.Common.{◌≡◌, ◌+◌, ◌*◌, ◌≤◌, List, length}
use Rattle.netlink_core.specs.declared.error.DecodeError.{DecodeError}
use Rattle.netlink_core.specs.Attribute.{DecodeTo, HasAttributeError}
use Rattle.netlink_core.specs.Walk.{unread_bytes}
use Rattle.netlink_core.specs.AttributeSet.{AttributeValue, decode_attribute}
use Rattle.attribute_lists.specs.AttributesIn.{decoded_in}
use Rattle.attribute_lists.specs.AttributesIn.{encoded_attributes_in}
use Rattle.attribute_lists.proofs.Measuring.{Leaves}
use Rattle.attribute_lists.proofs.views.check_nlas_len.Given as goal

-- if the remaining bytes have values or an error, so do all bytes; and `count` attributes were
-- read, of at least four bytes each, and measured if a limit is given
abbrev pub invariant-loop-item : goal.invariant-loop-item
invariant-loop-item g l =
    let F = g.V.FamilyView.attribute_set in
    let left = unread_bytes l.item-iterator in
    record {
      mean : (later : List (AttributeValue F)) → DecodeTo (decode_attribute F) left later
          → (all : List (AttributeValue F)) × DecodeTo (decode_attribute F) l.bytes all;
      error : (e : DecodeError) → HasAttributeError (decode_attribute F) left e
          → HasAttributeError (decode_attribute F) l.bytes e;
      many : l.count + length (decoded_in (decode_attribute F) left)
          ≡ length (decoded_in (decode_attribute F) l.bytes);
      few : 4 * l.count + length left ≤ length l.bytes;
      room : Leaves l.limit (encoded_attributes_in F l.bytes) l.room (encoded_attributes_in F left);
    }
