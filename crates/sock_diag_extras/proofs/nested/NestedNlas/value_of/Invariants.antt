use Rattle.std.proofs.Common.{◌≡◌, [], length}
use Rattle.netlink_core.specs.AttributeSet.{decode_attribute}
use Rattle.netlink_core.specs.Walk.{unread_bytes}
use Rattle.attribute_lists.specs.AttributesIn.{HasNoAttributeError}
use Rattle.sock_diag_extras.specs.Nested.{attributes_in, first_value_in}
use Rattle.sock_diag_extras.proofs.nested.NestedNlas.value_of.Given as goal

-- The bytes left have no framing error, and the first value of the kind in them is the first value
-- of the kind in all bytes.
abbrev pub invariant-loop-nla : goal.invariant-loop-nla
invariant-loop-nla l = record {
  framed : HasNoAttributeError (decode_attribute []) (unread_bytes l.nlas);
  first : first_value_in l.kind (unread_bytes l.nlas) ≡ first_value_in l.kind l.self.bytes.now;
}

abbrev pub decreases-loop-nla : goal.decreases-loop-nla
decreases-loop-nla l = length (attributes_in (unread_bytes l.nlas))
