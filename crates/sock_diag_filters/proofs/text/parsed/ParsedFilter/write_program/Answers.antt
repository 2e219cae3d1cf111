use Rattle.std.proofs.Common.{arith}
use Rattle.std.proofs.lemmas.Grind.{common_steps}
use Rattle.sock_diag_filters.proofs.WrittenPrograms.{written_is_program}
use Rattle.sock_diag_filters.proofs.text.parsed.ParsedFilter.write_program.Goals as goal

pub returns-clause-program : goal.returns-clause-program
returns-clause-program c = λ filter is.
    written_is_program c.args.self.now.parts.items filter c.args.buffer.now c.write_last.new.buffer
    c.program_len-len.result c.write_last.result.0 c.write_last.result.1.now is
    c.program_len-len.ensures.value (omega arith) (omega arith)
    (grind (arith, common_steps, c.write_last.ensures.written))
