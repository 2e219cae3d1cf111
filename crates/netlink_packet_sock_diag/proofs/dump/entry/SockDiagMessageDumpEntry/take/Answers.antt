use Rattle.std.proofs.lemmas.Result.{IfErr-weaker}
use Rattle.netlink_packet_sock_diag.proofs.dump.entry.SockDiagMessageDumpEntry.take.Goals as goal

pub returns-clause-memory_needed : goal.returns-clause-memory_needed
returns-clause-memory_needed c =
    IfErr-weaker c.deserialize.result _ _
    (λ e wants memory. let wanted = wants memory in (wanted.0, wanted.1, tt))
    c.deserialize.ensures.memory_needed
