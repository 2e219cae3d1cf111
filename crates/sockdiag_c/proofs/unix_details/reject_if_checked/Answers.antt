use Rattle.netlink_core.specs.Walk.{buffered_attribute}
use Rattle.sock_diag_attributes.specs.UnixAttributes.{unix_attribute_set}
use Rattle.sock_diag_any.specs.declared.nla.Sockets.TheVariants.{Unix}
use Rattle.sockdiag_c.proofs.CheckedKinds.{rejected, unchecked}
use Rattle.sockdiag_c.proofs.unix_details.reject_if_checked.Goals as goal

pub returns-in-Ok : goal.returns-in-Ok
returns-in-Ok c e read =
    unchecked unix_attribute_set Unix _ e _ read c.in-Ok.ensures

pub returns-in-Err : goal.returns-in-Err
returns-in-Err c e read =
    rejected unix_attribute_set Unix (buffered_attribute c.args.nla.now) _ c.in-Err.ensures
