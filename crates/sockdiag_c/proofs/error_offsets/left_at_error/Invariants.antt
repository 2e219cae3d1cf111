use Rattle.std.specs.Prelude.{◌≡◌, ◌≤◌, List, None, length}
use Rattle.netlink_core.specs.Attribute.{Attribute, SplitsIntoAttributes}
use Rattle.netlink_core.specs.Walk.{unread_bytes}
use Rattle.sock_diag_replies.specs.UnixGetters.{first_content_of}
use Rattle.sockdiag_c.specs.Family.{value_error}
use Rattle.sockdiag_c.proofs.error_offsets.left_at_error.Given as goal

-- the attributes so far have no error, and `left` bytes follow them
abbrev pub invariant-loop-item : goal.invariant-loop-item
invariant-loop-item g l = record {
  so_far : List Attribute;
  split : SplitsIntoAttributes l.bytes so_far (unread_bytes l.item-iterator);
  accepted : first_content_of (value_error g.T.ReplyDetails.family) so_far ≡ None;
  size : length (unread_bytes l.item-iterator) ≡ l.left;
  within : l.left ≤ length l.bytes;
}
