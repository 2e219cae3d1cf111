use Rattle.std.proofs.Common.{sym}
use Rattle.netlink_core.specs.Walk.{buffered_attribute}
use Rattle.sock_diag_attributes.specs.InetAttributes.{inet_attribute_set}
use Rattle.sock_diag_any.specs.declared.nla.InfoFormat.TheVariants.{Unknown}
use Rattle.sock_diag_any.specs.declared.nla.Sockets.TheVariants.{Inet}
use Rattle.sock_diag_any.proofs.AnyAgreement.{inet_errors}
use Rattle.sockdiag_c.proofs.CheckedKinds.{valid}
use Rattle.sockdiag_c.proofs.inet_details.InetDetailsReplyDetails.read.Goals as goal

pub returns-in-Ok : goal.returns-in-Ok
returns-in-Ok c =
    valid inet_attribute_set (Inet Unknown) inet_errors (buffered_attribute c.args.nla.now) _
    (sym c.in-Ok.ensures)

pub returns-in-Err : goal.returns-in-Err
returns-in-Err c = c.reject_if_checked.ensures _ (sym c.in-Err.ensures)
