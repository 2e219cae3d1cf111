use Rattle.std.proofs.Common.{◌≡◌, arith, sym, Err, subst, true, false}
use Rattle.std.proofs.Common.{get_or, Result}
use Rattle.std.specs.Prelude.{IfErr}
use Rattle.std.specs.Char.{is_ascii_whitespace}
use Rattle.std.proofs.lemmas.Grind.{common_steps}
use Rattle.std.proofs.lemmas.Result.{err_from_is_err_and}
use Rattle.sock_diag_filters.specs.Parsed.{IsFilterTextError}
use Rattle.sock_diag_filters.specs.Readers.{state_of}
use Rattle.sock_diag_filters.specs.declared.text.parsed.FilterTextError.{FilterTextError}
use Rattle.sock_diag_filters.specs.declared.text.parsed.ParsedFilter.{ParsedFilter}
use Rattle.sock_diag_filters.proofs.ParsingText.{byte_step, finish_parsed, finish_rejected}
use Rattle.sock_diag_filters.proofs.ParsingText.{read_at_end}
use Rattle.sock_diag_filters.proofs.ParsingText.{rejected_at, rejected_at_end, space_step}
use Rattle.sock_diag_filters.proofs.text.parsed.ParsedFilter.parse.Goals as goal
use Rattle.sock_diag_filters.proofs.text.parsed.ParsedFilter.parse.Goals.{else-is_ascii_whitespace}
use Rattle.sock_diag_filters.proofs.text.parsed.ParsedFilter.parse.Goals.{
  then-is_ascii_whitespace+in_ok-read_at,
}

pub returns-in_err-read_at-clause-rejected : goal.returns-in_err-read_at-clause-rejected
returns-in_err-read_at-clause-rejected c =
    let p = err_from_is_err_and c.from_residual.result c.from_residual.ensures.1 in
    let same : c.from_residual.result ≡ Err c.in_err-read_at.field-0.0 =
    grind (arith, p.1, p.2) in
    let space : is_ascii_whitespace (get_or c.args.text.now c.loop-index.index 0) ≡ true =
    grind (arith, common_steps) in
    subst (λ (r : Result ParsedFilter FilterTextError). IfErr r (λ e. IsFilterTextError
    c.args.text.now e))
    (sym same)
    (rejected_at (state_of c.loop-index.reader) (state_of c.read_at.new.self) c.loop-index.start
    c.loop-index.index c.args.text.now c.in_err-read_at.field-0.0 (omega arith) space
    c.in_err-read_at.ensures c.loop-index.invariant.same)

pub loop-index-preserved : goal.loop-index-preserved
loop-index-preserved c =
    elim c.if-is_ascii_whitespace.branch [
      | then-is_ascii_whitespace+in_ok-read_at w ↦
          let space : is_ascii_whitespace (get_or c.args.text.now c.loop-index.index 0) ≡ true =
          grind (arith, common_steps) in record {
            same = space_step (state_of c.loop-index.reader) (state_of w.read_at.new.self)
                (state_of c.if-is_ascii_whitespace.reader) c.loop-index.start c.loop-index.index
                c.if-is_ascii_whitespace.start c.args.text.now tt c.loop-index.invariant.bound
                (omega arith) space w.in_ok-read_at.ensures c.loop-index.invariant.same
                (grind (arith, common_steps)) (grind (arith, common_steps));
            bound = omega arith;
          }
      | else-is_ascii_whitespace w ↦
          let other : is_ascii_whitespace (get_or c.args.text.now c.loop-index.index 0) ≡ false =
          grind (arith, common_steps) in record {
            same = byte_step (state_of c.loop-index.reader) (state_of
                c.if-is_ascii_whitespace.reader)
                c.loop-index.start c.loop-index.index
                c.if-is_ascii_whitespace.start c.args.text.now c.loop-index.invariant.bound
                (omega arith) other c.loop-index.invariant.same
                (grind (arith, common_steps)) (grind (arith, common_steps));
            bound = omega arith;
          }
    ]

pub returns-in_err-read_at-2-clause-rejected : goal.returns-in_err-read_at-2-clause-rejected
returns-in_err-read_at-2-clause-rejected c =
    let p = err_from_is_err_and c.from_residual-in_err-read_at-2.result
    c.from_residual-in_err-read_at-2.ensures.1 in
    let same : c.from_residual-in_err-read_at-2.result ≡ Err c.in_err-read_at-2.field-0.0 =
    grind (arith, p.1, p.2) in
    subst (λ (r : Result ParsedFilter FilterTextError). IfErr r (λ e. IsFilterTextError
    c.args.text.now e))
    (sym same)
    (rejected_at_end (state_of c.loop-index.reader) (state_of c.read_at-2.new.self)
    c.loop-index.start c.loop-index.index c.args.text.now c.in_err-read_at-2.field-0.0
    (omega arith) c.in_err-read_at-2.ensures c.loop-index.invariant.same)

pub returns-clause-parsed : goal.returns-clause-parsed
returns-clause-parsed c =
    finish_parsed c.args.text.now (state_of c.read_at-2.new.self) c.finish.result c.finish.ensures
    (read_at_end (state_of c.loop-index.reader) (state_of c.read_at-2.new.self)
    c.loop-index.start c.loop-index.index c.args.text.now tt
    (omega arith) c.in_ok-read_at-2.ensures c.loop-index.invariant.same)

pub returns-clause-rejected : goal.returns-clause-rejected
returns-clause-rejected c =
    finish_rejected c.args.text.now (state_of c.read_at-2.new.self) c.finish.result c.finish.ensures
    (read_at_end (state_of c.loop-index.reader) (state_of c.read_at-2.new.self)
    c.loop-index.start c.loop-index.index c.args.text.now tt
    (omega arith) c.in_ok-read_at-2.ensures c.loop-index.invariant.same)
