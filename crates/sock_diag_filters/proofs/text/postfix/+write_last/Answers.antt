use Rattle.std.proofs.Common.{◌-◌, arith, refl, length}
use Rattle.std.proofs.lemmas.Grind.{common_steps}
use Rattle.sock_diag_filters.proofs.LastParts.{and_written, condition_written, none_written}
use Rattle.sock_diag_filters.proofs.LastParts.{not_written, or_written}
use Rattle.sock_diag_filters.proofs.text.postfix.+write_last.Goals as goal

pub returns-in_default-clause-written : goal.returns-in_default-clause-written
returns-in_default-clause-written t c =
    none_written c.args.parts.now c.args.far c.args.buffer.now _ _ _ (grind (arith, common_steps))

pub returns-in-Condition-clause-written : goal.returns-in-Condition-clause-written
returns-in-Condition-clause-written t c =
    condition_written c.args.parts.now c.in-Some.before.now c.in-Condition.condition c.args.far
    c.args.buffer.now c.write_condition.new.buffer c.write_condition.result
    (grind (arith, common_steps)) c.write_condition.ensures.len c.write_condition.ensures.written
    c.write_condition.ensures.in_range

pub returns-in-Not-clause-written : goal.returns-in-Not-clause-written
returns-in-Not-clause-written t c =
    not_written c.args.parts.now c.in-Some.before.now c.args.far c.args.buffer.now
    c.write_jump.new.buffer c.write_last-len.new.buffer (length c.write_jump.new.buffer - 4)
    c.write_last-len.result.0 c.write_last-len.result.1.now
    (grind (arith, common_steps)) c.requires.whole c.write_jump.ensures refl
    c.write_last-len.ensures.written

pub returns-in-And-clause-written : goal.returns-in-And-clause-written
returns-in-And-clause-written t c =
    and_written c.args.parts.now c.in-Some.before.now c.write_last-second_len.result.1.now
    c.args.far c.args.buffer.now c.write_last-second_len.new.buffer
    c.write_last-first_len.new.buffer
    (length c.write_last-second_len.new.buffer - c.write_last-second_len.result.0)
    c.write_last-second_len.result.0 c.write_last-first_len.result.0
    c.write_last-first_len.result.1.now (grind (arith, common_steps)) c.requires.whole
    c.write_last-second_len.ensures.written refl c.write_last-first_len.ensures.written

pub returns-in-Or-clause-written : goal.returns-in-Or-clause-written
returns-in-Or-clause-written t c =
    or_written c.args.parts.now c.in-Some.before.now c.write_last-second_len-in-Or.result.1.now
    c.args.far c.args.buffer.now c.write_last-second_len-in-Or.new.buffer
    c.write_jump-in-Or.new.buffer c.write_last-first_len-in-Or.new.buffer
    (length c.write_last-second_len-in-Or.new.buffer - c.write_last-second_len-in-Or.result.0)
    (length c.write_last-second_len-in-Or.new.buffer - c.write_last-second_len-in-Or.result.0 - 4)
    c.write_last-second_len-in-Or.result.0 c.write_last-first_len-in-Or.result.0
    c.write_last-first_len-in-Or.result.1.now (grind (arith, common_steps)) c.requires.whole
    c.write_last-second_len-in-Or.ensures.written refl c.write_jump-in-Or.ensures refl
    c.write_last-first_len-in-Or.ensures.written
