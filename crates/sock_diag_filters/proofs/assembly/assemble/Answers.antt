use Rattle.std.proofs.Common.{◌≡◌, ◌≤◌, ℕ, List, ◌++◌, length, take, drop, subst, arith, rules}
use Rattle.std.proofs.Math.Seq.{take-append_seam}
use Rattle.sock_diag_filters.specs.declared.condition.Condition.{Condition}
use Rattle.sock_diag_filters.specs.Conditions.{arguments, code_of}
use Rattle.sock_diag_filters.specs.private.Assembly.{EndsWith, program_of}
use Rattle.sock_diag_filters.specs.Filters.{meaning, program_size}
use Rattle.sock_diag_filters.specs.Run.{Runs}
use Rattle.sock_diag_filters.specs.Sockets.{kernel_evaluates}
use Rattle.sock_diag_filters.proofs.Auditing.{program_audited}
use Rattle.sock_diag_filters.proofs.Ending.{ends_at_start}
use Rattle.sock_diag_filters.proofs.Finding.{evaluation_is_meaning}
use Rattle.sock_diag_filters.proofs.Operations.{program_length}
use Rattle.sock_diag_filters.proofs.Running.{program_verdict_is_meaning}
use Rattle.sock_diag_filters.proofs.assembly.assemble.Goals as goal

-- A buffer that was written from its end to its start contains what was written.
filled : (n : ℕ) (program new old zeros : List ℕ) → EndsWith zeros program new
    → length zeros ≡ n → length program ≡ n
    → program ≡ take n (new ++ drop (length new) old)
filled n program new old zeros ends same long =
    let as_written = ends_at_start zeros program new (omega (arith, same, long)) ends in
    grind (arith, as_written, take-append_seam new (drop (length new) old))

pub returns-clause-audited : goal.returns-clause-audited
returns-clause-audited c =
    grind (
      arith,
      program_length,
      filled c.in_ok-program.program.len,
      program_of,
      program_audited,
      c.write_program.ensures.written,
    )

pub returns-clause-runs : goal.returns-clause-runs
returns-clause-runs c = λ found.
    let filter = c.args.filter.now in
    let long = program_length filter 4 in
    let short : program_size filter ≤ 65531 = omega arith in
    let some : c.in-Some.len ≡ program_size filter = search rules in
    let all : c.in_ok-program.program.len ≡ c.in-Some.len = search rules in
    let wants = meaning (λ (d : Condition). found (code_of d) (arguments d)) filter in
    subst (λ (l : List ℕ). Runs found l wants) (filled c.in_ok-program.program.len
    (program_of filter 4) _ _ _ c.write_program.ensures.written
    (grind arith) (omega arith))
    (program_verdict_is_meaning found filter short)

pub returns-clause-selects_by_filter : goal.returns-clause-selects_by_filter
returns-clause-selects_by_filter c = λ socket.
    subst (Runs (kernel_evaluates socket) _)
    (evaluation_is_meaning socket c.args.filter.now c.write_program.ensures.in_range)
    (returns-clause-runs c (kernel_evaluates socket))
