use Rattle.std.proofs.Common.{arith, rules, ◌≡◌, true}
use Rattle.std.proofs.lemmas.Result.{err_from_is_err_and}
use Rattle.sock_diag_filters.specs.Keywords.{begins_operand}
use Rattle.sock_diag_filters.specs.Readers.{state_of}
use Rattle.sock_diag_filters.specs.Reading.{with_pending}
use Rattle.sock_diag_filters.specs.declared.text.reader.Pending.TheVariants.{And}
use Rattle.sock_diag_filters.proofs.ReadingSteps.{begun_too_long}
use Rattle.sock_diag_filters.proofs.text.reader.Reader.follow_directly.Goals as goal

pub returns-in_err-add_pending : goal.returns-in_err-add_pending
returns-in_err-add_pending c =
    let p = err_from_is_err_and c.from_residual.result c.from_residual.ensures.1 in
    let begins : begins_operand c.args.keyword ≡ true = search rules in
    begun_too_long c.args.keyword (with_pending And (state_of c.args.self.now))
    c.in_err-add_pending.field-0.0 c.add_pending.new.self c.add_pending.new.self
    c.from_residual.result begins c.in_err-add_pending.ensures (grind (arith, p.1, p.2))
