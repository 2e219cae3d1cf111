-- The program of a filter in postfix order.
use Rattle.std.proofs.Common.{◌≡◌, ◌∙◌, ℕ, ◌≤◌, List, [], ◌++◌, length, take, drop, sym, subst}
use Rattle.std.proofs.Common.{ap, arith}
use Rattle.std.specs.Prelude.{sum_by}
use Rattle.std.proofs.Math.Seq.{take-append_seam}
use Rattle.std.proofs.lemmas.List.{length-take-le}
use Rattle.sock_diag_filters.specs.declared.filter.Filter.{Filter}
use Rattle.sock_diag_filters.specs.declared.text.parsed.Part.{Part}
use Rattle.sock_diag_filters.specs.Filters.{program_size}
use Rattle.sock_diag_filters.specs.Postfix.{IsLastWritten, part_size, postfix}
use Rattle.sock_diag_filters.specs.Programs.{IsProgram}
use Rattle.sock_diag_filters.specs.Run.{Runs}
use Rattle.sock_diag_filters.specs.Sockets.{AreConditionsInRange, kernel_evaluates}
use Rattle.sock_diag_filters.specs.private.Assembly.{program_of}
use Rattle.sock_diag_filters.proofs.Auditing.{program_audited}
use Rattle.sock_diag_filters.proofs.Ending.{ends_at_start}
use Rattle.sock_diag_filters.proofs.Finding.{evaluation_is_meaning}
use Rattle.sock_diag_filters.proofs.LastParts.{size_of_postfix}
use Rattle.sock_diag_filters.proofs.Operations.{program_length}
use Rattle.sock_diag_filters.proofs.Running.{program_verdict_is_meaning}

is_program : (filter : Filter) (program : List ℕ) → program ≡ program_of filter 4
    → program_size filter ≤ 65531 → AreConditionsInRange filter → IsProgram filter program
is_program filter program same short range =
    subst (IsProgram filter) (sym same) record {
      size = program_length filter 4;
      audited = program_audited filter short;
      runs = λ met. program_verdict_is_meaning met filter short;
      selects = λ socket.
          subst (Runs (kernel_evaluates socket) (program_of filter 4))
          (evaluation_is_meaning socket filter range)
          (program_verdict_is_meaning (kernel_evaluates socket) filter short);
    }

-- The first bytes of a buffer that the last filter of its own parts was written to.
pub written_is_program : (parts : List Part) (filter : Filter) (old new : List ℕ) (len n : ℕ)
    (rest : List Part) → parts ≡ postfix filter → len ≡ sum_by part_size parts → len ≤ 65531
    → len ≤ length old → IsLastWritten parts 4 (take len old) new n rest
    → IsProgram filter (take len (new ++ drop len old))
written_is_program parts filter old new len n rest is size short fits h =
    let s = h [] filter is in
    let long : len ≡ program_size filter =
    size ∙ (ap (λ (l : List Part). sum_by part_size l) is ∙ size_of_postfix filter) in
    let whole : new ≡ program_of filter 4 =
    ends_at_start (take len old) (program_of filter 4) new
    (omega (arith, long, length-take-le len old fits, program_length filter 4)) s.2 in
    let all : length new ≡ len = ap (λ (l : List ℕ). length l) whole ∙ (program_length filter 4 ∙
    sym long) in
    let first : take len (new ++ drop len old) ≡ new =
    ap (λ (k : ℕ). take k (new ++ drop len old)) (sym all) ∙ take-append_seam new (drop len old) in
    is_program filter (take len (new ++ drop len old)) (first ∙ whole) (omega (arith, long, short))
    s.3
