-- Stepping over the operations of a program leads to its end.
use Rattle.std.proofs.lemmas.Grind.{common_steps}
use Rattle.std.proofs.Common.{◌≡◌, ◌∙◌, ℕ, ◌+◌, ◌%◌, ◌⊎◌, List, [], ◌++◌, length, drop, refl, sym}
use Rattle.std.proofs.Common.{ap, subst, arith, append_assoc}
use Rattle.std.proofs.lemmas.List.{length-append}
use Rattle.sock_diag_filters.specs.declared.filter.Filter.{Filter}
use Rattle.sock_diag_filters.specs.declared.filter.Filter.TheVariants as parts
use Rattle.sock_diag_filters.specs.Conditions.{arguments, code_of}
use Rattle.sock_diag_filters.specs.Filters.{program_size}
use Rattle.sock_diag_filters.specs.Audit.{Steps, there, over, yes_at}
use Rattle.sock_diag_filters.specs.private.Assembly.{jump, operation, program_of}
use Rattle.sock_diag_filters.proofs.Operations.{arguments_length_multiple_of_4}
use Rattle.sock_diag_filters.proofs.Operations.{bytes_after_operation, operation_length}

pub steps_on : (a b c : List ℕ) → Steps a b → Steps b c → Steps a c
steps_on a b c (there left) more = more
steps_on a b c (over left later some fours within on) more =
    over left c some fours within (steps_on (drop (yes_at left) left) later c on more)

pub over_operation : (code : ℕ) (args : List ℕ) (far : ℕ) (rest : List ℕ) → length args % 4 ≡ 0
    → Steps (operation code args far ++ rest) rest
over_operation code args far rest fours =
    let left : List ℕ = operation code args far ++ rest in
    let long : length left ≡ 4 + length args + length rest =
    length-append (operation code args far) rest
    ∙ ap (λ (n : ℕ). n + length rest) (operation_length code args far) in
    over left rest (omega arith) (omega arith) (omega arith)
    (subst (λ (l : List ℕ). Steps l rest) (sym (bytes_after_operation code args far rest))
    (there rest))

-- Moves the parentheses in a concatenation of three lists.
abbrev pub before : (P : List ℕ → Type 0) (a b rest : List ℕ) → P (a ++ (b ++ rest))
    → P ((a ++ b) ++ rest)
before P a b rest h = subst P (sym (append_assoc a b rest)) h

pub over_program : (f : Filter) (far : ℕ) (rest : List ℕ) → Steps (program_of f far ++ rest) rest
over_program (parts.Condition c) far rest =
    grind (
      arith,
      over_operation (code_of c) (arguments c) far rest (arguments_length_multiple_of_4 c),
      arguments_length_multiple_of_4 c,
    )
over_program (parts.And' p a q b) far rest =
    grind (
      arith,
      common_steps,
      program_of,
      steps_on,
      over_program a (program_size b + far),
      over_program b far rest,
    )
over_program (parts.Or' p a q b) far rest =
    let second : List ℕ = program_of b far in
    let behind : List ℕ = jump (program_size b) ++ second in
    before (λ (l : List ℕ). Steps l rest) (program_of a 4) behind rest
    (steps_on _ (behind ++ rest) rest (over_program a 4 (behind ++ rest))
    (before (λ (l : List ℕ). Steps l rest) (jump (program_size b)) second rest
    (steps_on _ (second ++ rest) rest (over_operation 1 [] (program_size b) (second ++ rest) refl)
    (over_program b far rest))))
over_program (parts.Not' p a) far rest =
    before (λ (l : List ℕ). Steps l rest) (program_of a 4) (jump far) rest
    (steps_on _ (jump far ++ rest) rest (over_program a 4 (jump far ++ rest))
    (over_operation 1 [] far rest refl))

-- A valid target of a jump, `far` bytes after the start of `rest`: 4 bytes past the end, or an
-- operation or the end, which stepping over operations reaches.
abbrev pub IsJumpTarget : ℕ → List ℕ → Type 0
IsJumpTarget far rest =
    (far ≡ length rest + 4)
    ⊎ ((later : List ℕ) × Steps rest later × (length later + far ≡ length rest))
