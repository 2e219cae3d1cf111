use Rattle.std.specs.Prelude.{◌≡◌, ◌<◌, ℕ, List, slice_index}
use Rattle.netlink_core.specs.Attribute.{Attribute}
use Rattle.netlink_core.specs.Walk.{unread_bytes}
use Rattle.sock_diag_replies.specs.UnixGetters.{first_content_of}
use Rattle.sockdiag_c.specs.Family.{HasValues, error_of_kind, optional_code, value_error}
use Rattle.sockdiag_c.specs.declared.lenient.TheConstants.{REJECTION_KINDS}
use Rattle.sockdiag_c.proofs.Rows.{AttributesSoFar}
use Rattle.sockdiag_c.proofs.details.set_values.Given as goal

-- the details and the errors are those of the attributes so far, and the others are left
abbrev pub invariant-loop-item : goal.invariant-loop-item
invariant-loop-item g l = record {
  so_far : List Attribute;
  walk : AttributesSoFar l.bytes (unread_bytes l.item-iterator) so_far;
  header : g.T.ReplyDetails.family.header l.details ≡ g.T.ReplyDetails.family.header l.fn.details;
  values : HasValues g.T.ReplyDetails.family.read g.T.ReplyDetails.family.rows l.details so_far;
  first : l.errors.first ≡ first_content_of (value_error g.T.ReplyDetails.family) so_far;
  code : l.errors.rejections.first ≡ optional_code l.errors.first;
  framing : l.errors.rejections.framing ≡ 0;
  kinds : (k : ℕ) → k < REJECTION_KINDS → slice_index l.errors.rejections.errors k
      ≡ optional_code (first_content_of (error_of_kind g.T.ReplyDetails.family k) so_far);
}
