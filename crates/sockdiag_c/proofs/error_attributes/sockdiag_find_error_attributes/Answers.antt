use Rattle.std.proofs.Common.{◌+◌, refl}
use Rattle.netlink_core.specs.Attribute.{padding_length}
use Rattle.sock_diag_extras.specs.Acknowledgement.{acked_request_length}
use Rattle.sockdiag_c.proofs.ErrorAttributes.{attributes_by_length, mapped, pointed}
use Rattle.sockdiag_c.proofs.error_attributes.sockdiag_find_error_attributes.Goals as goal

pub returns-in-2-clause-error : goal.returns-in-2-clause-error
returns-in-2-clause-error c is =
    let flags = c.args.flags in
    let payload = c.args.payload.now in
    let sent = acked_request_length flags payload in
    pointed _ c.of_error.result payload _ _ _ _ c.point_at.ensures c.of_error.ensures.contained
    c.of_error.ensures.attributes
    (attributes_by_length flags (4 + (sent + padding_length sent)) payload _ refl)

pub returns-in-3-clause-done : goal.returns-in-3-clause-done
returns-in-3-clause-done c is =
    let payload = c.args.payload.now in
    pointed _ c.of_done.result payload _ _ _ _ c.point_at-in-3.ensures
    (mapped c.of_done.result _ c.of_done.ensures.number)
    c.of_done.ensures.attributes
    (attributes_by_length c.args.flags 4 payload _ refl)
