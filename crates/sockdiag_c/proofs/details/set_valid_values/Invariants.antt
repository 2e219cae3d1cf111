use Rattle.std.specs.Prelude.{◌≡◌, List, [], None}
use Rattle.netlink_core.specs.Attribute.{Attribute}
use Rattle.netlink_core.specs.Walk.{unread_bytes}
use Rattle.sock_diag_replies.specs.UnixGetters.{first_content_of}
use Rattle.sockdiag_c.specs.Family.{HasValues, value_error}
use Rattle.sockdiag_c.proofs.Rows.{AttributesSoFar}
use Rattle.sockdiag_c.proofs.details.set_valid_values.Given as goal

-- the details are those of the attributes so far, none of which has an error
abbrev pub invariant-loop-item : goal.invariant-loop-item
invariant-loop-item g l = record {
  so_far : List Attribute;
  walk : AttributesSoFar l.bytes (unread_bytes l.item-iterator) so_far;
  header : g.T.ReplyDetails.family.header l.details ≡ g.T.ReplyDetails.family.header l.fn.details;
  values : HasValues g.T.ReplyDetails.family.read g.T.ReplyDetails.family.rows l.fn.details []
      → HasValues g.T.ReplyDetails.family.read g.T.ReplyDetails.family.rows l.details so_far;
  first : first_content_of (value_error g.T.ReplyDetails.family) so_far ≡ None;
}
