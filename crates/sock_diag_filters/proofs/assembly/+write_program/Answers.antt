use Rattle.std.proofs.Common.{◌-◌, ◌++◌, length, drop, arith}
use Rattle.sock_diag_filters.specs.private.Assembly.{EndsWith, jump, program_of}
use Rattle.sock_diag_filters.specs.Filters.{program_size}
use Rattle.sock_diag_filters.proofs.Ending.{ends_with_both}
use Rattle.sock_diag_filters.proofs.Operations.{program_length}
use Rattle.sock_diag_filters.proofs.assembly.+write_program.Goals as goal

pub returns-in-And-clause-written : goal.returns-in-And-clause-written
returns-in-And-clause-written t c =
    grind (arith, program_length, ends_with_both)

pub returns-in-Or-clause-written : goal.returns-in-Or-clause-written
returns-in-Or-clause-written t c =
    let second_program = program_of c.in-Or.second.now c.args.far in
    let jump_over = jump (program_size c.in-Or.second.now) in
    let end = length c.write_program-second_len-in-Or.new.buffer
    - c.write_program-second_len-in-Or.result in
    let both : EndsWith c.args.buffer.now (jump_over ++ second_program)
    (c.write_jump.new.buffer ++ drop end c.write_program-second_len-in-Or.new.buffer) =
    ends_with_both c.args.buffer.now c.write_program-second_len-in-Or.new.buffer
    c.write_jump.new.buffer jump_over second_program end
    (grind (arith, program_length)) c.write_program-second_len-in-Or.ensures.written
    (grind (arith, program_length)) (grind (arith, program_length)) in
    rw c.in-Or.is
    (ends_with_both c.args.buffer.now
    (c.write_jump.new.buffer ++ drop end c.write_program-second_len-in-Or.new.buffer)
    c.write_program-first_len.new.buffer (program_of c.in-Or.first.now 4)
    (jump_over ++ second_program) (end - 4)
    (grind (arith, program_length)) both (grind (arith, program_length, both))
    (grind (arith, c.write_program-first_len.ensures.written)))
