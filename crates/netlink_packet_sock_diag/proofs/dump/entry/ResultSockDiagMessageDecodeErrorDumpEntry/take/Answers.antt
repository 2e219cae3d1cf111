use Rattle.std.proofs.Common.{Ok, refl}
use Rattle.netlink_packet_sock_diag.proofs.dump.entry.ResultSockDiagMessageDecodeErrorDumpEntry as
    entry

pub returns-in-Err-Memory-clause-memory_needed :
    entry.take.Goals.returns-in-Err-Memory-clause-memory_needed
returns-in-Err-Memory-clause-memory_needed c = λ none.
    let wanted = c.in-Err-Memory.ensures.memory_needed c.in-Err-Memory.field-0-is in
    (Ok wanted.0, wanted.1, refl)
