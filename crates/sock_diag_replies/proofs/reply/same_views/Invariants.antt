use Rattle.std.proofs.Common.{◌≡◌, Bool, length}
use lib.Pointwise.{pointwise}
use Rattle.netlink_core.specs.Walk.{unread_bytes}
use Rattle.netlink_core.specs.AttributeSet.{AttributeValue, decode_attribute}
use Rattle.attribute_lists.specs.AttributesIn.{HasNoAttributeError, decoded_in}
use Rattle.sock_diag_replies.proofs.reply.same_views.Given as goal

-- comparing the attributes that are left on both sides decides the result
abbrev pub invariant-loop-view : goal.invariant-loop-view
invariant-loop-view g l =
    let F = g.V.FamilyView.attribute_set in
    let values = decoded_in (decode_attribute F) in
    record {
      left : HasNoAttributeError (decode_attribute F) (unread_bytes l.left_nlas);
      right : HasNoAttributeError (decode_attribute F) (unread_bytes l.right_nlas);
      same : (test : AttributeValue F → AttributeValue F → Bool)
          → ((v w : g.row.V.Denot) → g.V.PartialEq.eq v w
          ≡ test (g.V.FamilyView.model v) (g.V.FamilyView.model w))
          → pointwise test (values (unread_bytes l.left_nlas)) (values (unread_bytes l.right_nlas))
          ≡ pointwise test (values l.left) (values l.right);
    }

abbrev pub decreases-loop-view : goal.decreases-loop-view
decreases-loop-view g l = length (decoded_in (decode_attribute g.V.FamilyView.attribute_set)
    (unread_bytes l.left_nlas))
