use Rattle.std.proofs.lemmas.Result.{err_from_is_err_and}
use Rattle.netlink_packet_sock_diag.proofs.message.SockDiagDestroyNetlinkDeserializable as destroy

pub returns-in_err-message-clause-memory_needed :
    destroy.deserialize.Goals.returns-in_err-message-clause-memory_needed
returns-in_err-message-clause-memory_needed c =
    let p = err_from_is_err_and c.from_residual.result c.from_residual.ensures.1 in
    rw (p.1, p.2) c.in_err-message.ensures.memory_needed
