use Rattle.std.proofs.lemmas.Result.{err_from_is_err_and}
use Rattle.netlink_core.proofs.Framing.{inner_error_is_outer_error}
use Rattle.netlink_packet_sock_diag.specs.Message.{message_codec}
use Rattle.netlink_packet_sock_diag.proofs.dump.views.MessageView.parse.Goals as goal

pub returns-in_err-payload-clause-error : goal.returns-in_err-payload-clause-error
returns-in_err-payload-clause-error c =
    let p = err_from_is_err_and c.from_residual-in_err-payload.result
    c.from_residual-in_err-payload.ensures.1 in
    rw (p.1, p.2) (inner_error_is_outer_error message_codec c.args.bytes.now c.in_ok-header.header _
    c.in_ok-header.ensures c.in_err-payload.ensures.error)
