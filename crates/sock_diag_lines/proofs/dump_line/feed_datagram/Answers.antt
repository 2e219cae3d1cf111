use Rattle.std.proofs.Common.{arith}
use Rattle.sock_diag_lines.proofs.DumpLaws.{ended_dump_is_unchanged}
use Rattle.sock_diag_lines.proofs.dump_line.feed_datagram.Goals as goal

pub returns-else-is_reading : goal.returns-else-is_reading
returns-else-is_reading c = ended_dump_is_unchanged c.args.dump.now c.args.datagram.now
    (λ i. omega (arith, c.type_inv.datagram i))
    (λ reading. let is = c.is_reading.ensures.1 reading in cc)
