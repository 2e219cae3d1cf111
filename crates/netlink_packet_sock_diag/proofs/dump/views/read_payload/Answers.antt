use Rattle.std.proofs.Common.{rules}
use Rattle.std.proofs.lemmas.Result.{err_from_is_err_and}
use Rattle.netlink_core.specs.NetlinkMessage.{IsInnerMessageType}
use Rattle.netlink_packet_sock_diag.proofs.dump.views.read_payload.Goals as goal

pub returns-in_err-parse-in_default-clause-error : goal.returns-in_err-parse-in_default-clause-error
returns-in_err-parse-in_default-clause-error c =
    let p = err_from_is_err_and c.from_residual.result
    c.from_residual.ensures.1 in
    let other : IsInnerMessageType c.args.header.now.message_type = search rules in
    rw (p.1, p.2) (other, c.in_err-parse-in_default.ensures.error)
