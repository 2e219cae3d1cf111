use Rattle.std.proofs.Common.{sym}
use Rattle.netlink_core.specs.Walk.{buffered_attribute}
use Rattle.sock_diag_attributes.specs.UnixAttributes.{unix_attribute_set}
use Rattle.sock_diag_any.specs.declared.nla.Sockets.TheVariants.{Unix}
use Rattle.sock_diag_any.proofs.AnyAgreement.{unix_errors}
use Rattle.sockdiag_c.proofs.CheckedKinds.{valid}
use Rattle.sockdiag_c.proofs.unix_details.UnixDetailsReplyDetails.read.Goals as goal

pub returns-in-Ok : goal.returns-in-Ok
returns-in-Ok c =
    valid unix_attribute_set Unix unix_errors (buffered_attribute c.args.nla.now) _
    (sym c.in-Ok.ensures)

pub returns-in-Err : goal.returns-in-Err
returns-in-Err c = c.reject_if_checked.ensures _ (sym c.in-Err.ensures)
