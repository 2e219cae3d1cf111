use Rattle.std.proofs.Common.{arith}
use Rattle.std.proofs.lemmas.Result.{err_from_is_err_and}
use Rattle.sock_diag_filters.specs.Readers.{state_of}
use Rattle.sock_diag_filters.specs.Reading.{with_condition, with_pending}
use Rattle.sock_diag_filters.specs.declared.text.reader.Pending.TheVariants.{Not}
use Rattle.sock_diag_filters.proofs.ReadingSteps.{pending_is_shorter, too_long_follows}
use Rattle.sock_diag_filters.proofs.ReadingSteps.{size_with_negated_condition}
use Rattle.sock_diag_filters.proofs.ReadingSteps.{size_with_plain_condition}
use Rattle.sock_diag_filters.proofs.text.reader.Reader.add_condition.Goals as goal
use Rattle.sock_diag_filters.proofs.text.reader.Reader.add_condition.Goals.{else-negated}
use Rattle.sock_diag_filters.proofs.text.reader.Reader.add_condition.Goals.{
  then-negated+in_ok-add_pending,
}

pub returns-in_err-add_pending : goal.returns-in_err-add_pending
returns-in_err-add_pending c =
    let p = err_from_is_err_and c.from_residual.result c.from_residual.ensures.1 in
    too_long_follows (with_pending Not (state_of c.args.self.now))
    (with_condition c.args.negated c.args.condition (state_of c.args.self.now))
    c.in_err-add_pending.field-0.0 c.add_pending.new.self c.add_pending.new.self
    c.from_residual.result c.in_err-add_pending.ensures
    (pending_is_shorter Not c.args.negated c.args.condition (state_of c.args.self.now))
    (grind (arith, p.1, p.2))

pub returns-then-is_full : goal.returns-then-is_full
returns-then-is_full c =
    elim c.if-negated.branch [
      | then-negated+in_ok-add_pending w ↦ grind (
        arith,
        size_with_negated_condition c.args.condition (state_of c.args.self.now),
      )
      | else-negated w ↦ grind (
        arith,
        size_with_plain_condition c.args.condition (state_of c.args.self.now),
      )
    ]
