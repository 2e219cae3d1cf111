-- The program of a filter passes the kernel's audit if it has at most 65,531 bytes.
use Rattle.std.proofs.Common.{◌≡◌, ◌∙◌, ℕ, ◌+◌, ◌*◌, ◌-◌, ◌%◌, ◌<◌, ◌≤◌, ◌⊎◌, List, [], ◌++◌}
use Rattle.std.proofs.Common.{length, refl, sym, ap, subst, arith, Some, inl, inr, append-nil}
use Rattle.std.proofs.Common.{append_assoc}
use Rattle.std.specs.Prelude.{slice_index}
use Rattle.std.proofs.lemmas.List.{length-append}
use Rattle.sock_diag_filters.specs.declared.filter.Filter.{Filter}
use Rattle.sock_diag_filters.specs.declared.filter.Filter.TheVariants as parts
use Rattle.sock_diag_filters.specs.Conditions.{arguments, code_of}
use Rattle.sock_diag_filters.specs.Filters.{program_size}
use Rattle.sock_diag_filters.specs.Audit.{IsAudited, IsReachable, AllOperationsPass, at_end, on}
use Rattle.sock_diag_filters.specs.Audit.{Steps, there, min_operation_length, no_at}
use Rattle.sock_diag_filters.specs.private.Assembly.{jump, operation, program_of}
use Rattle.sock_diag_filters.proofs.Operations.{arguments_length_multiple_of_4}
use Rattle.sock_diag_filters.proofs.Operations.{bytes_after_operation, condition_bits}
use Rattle.sock_diag_filters.proofs.Operations.{condition_known, no_of_operation, operation_length}
use Rattle.sock_diag_filters.proofs.Operations.{program_length, program_size_multiple_of_4}
use Rattle.sock_diag_filters.proofs.Operations.{program_size_at_least_4}
use Rattle.sock_diag_filters.proofs.Stepping.{IsJumpTarget, before, over_operation, over_program}
use Rattle.sock_diag_filters.proofs.Stepping.{steps_on}

-- A jump target is at most 4 bytes past the end.
jump_target_is_near_end : (far : ℕ) (rest : List ℕ) → IsJumpTarget far rest → far ≤ length rest + 4
jump_target_is_near_end far rest lands =
    grind arith

-- The target of a jump from an operation is reachable if it is before the end of the program.
jump_target_is_reachable : (program left : List ℕ) (own far : ℕ) (rest : List ℕ)
    → Steps program left
    → Steps left rest → length left ≡ own + length rest → IsJumpTarget far rest
    → own + far < length left
    → IsReachable program (length left - (own + far))
jump_target_is_reachable program left own far rest to passing long lands less =
    grind (arith, steps_on program left, steps_on left rest)

-- The bytes from an operation on pass the audit if the bytes after the operation do.
operation_passes : (program : List ℕ) (code : ℕ) (args : List ℕ) (far : ℕ) (rest : List ℕ)
    → min_operation_length (operation code args far ++ rest) ≡ Some (4 + length args)
    → ((code ≡ 7) ⊎ (code ≡ 8)
    → slice_index (operation code args far ++ rest) 5 ≤ 8 * (4 + length args - 12))
    → length args % 4 ≡ 0 → far % 4 ≡ 0 → 4 + length args + far ≤ 65535
    → Steps program (operation code args far ++ rest) → IsJumpTarget far rest
    → AllOperationsPass program rest
    → AllOperationsPass program (operation code args far ++ rest)
operation_passes program code args far rest known bits fours far_fours near to lands passes =
    let left : List ℕ = operation code args far ++ rest in
    let no : no_at left ≡ 4 + length args + far = no_of_operation code args far rest near in
    let long : length left ≡ 4 + length args + length rest =
    length-append (operation code args far) rest
    ∙ ap (λ (n : ℕ). n + length rest) (operation_length code args far) in
    let most = jump_target_is_near_end far rest lands in
    on left (record {
      least = 4 + length args;
      known = known;
      whole = omega arith;
      bits = bits;
      past_it = λ _. omega arith;
      within = λ _. omega arith;
      in_fours = λ _. rw no (omega arith);
      lands = λ _ less.
          subst (λ (n : ℕ). IsReachable program (length left - n)) (sym no)
          (jump_target_is_reachable program left (4 + length args) far rest to
          (over_operation code args far rest fours) long lands (omega arith));
      steps_past = omega arith;
      steps_within = omega arith;
      steps_in_fours = omega arith;
    }) (subst (AllOperationsPass program) (sym (bytes_after_operation code args far rest)) passes)

-- A jump target after the start of `rest` is a jump target after the start of the bytes before it,
-- at a distance that is greater by the length of these bytes.
jump_target_after_prefix : (front rest : List ℕ) (far own : ℕ) → Steps (front ++ rest) rest
    → length front ≡ own → IsJumpTarget far rest → IsJumpTarget (own + far) (front ++ rest)
jump_target_after_prefix front rest far own passing long lands =
    grind (arith, length-append front rest, steps_on (front ++ rest) rest)

-- The bytes from a jump on pass the audit if the bytes after the jump do.
jump_passes : (program : List ℕ) (far : ℕ) (rest : List ℕ) → far % 4 ≡ 0 → 4 + far ≤ 65535
    → Steps program (jump far ++ rest) → IsJumpTarget far rest → AllOperationsPass program rest
    → AllOperationsPass program (jump far ++ rest)
jump_passes program far rest fours near to lands passes =
    operation_passes program 1 [] far rest refl (λ is. absurd (omega arith)) refl fours
    (omega arith) to lands passes

-- The bytes from the program of a filter on pass the audit if the bytes after the program do.
program_passes : (f : Filter) (far : ℕ) (program rest : List ℕ) → far % 4 ≡ 0
    → program_size f + far ≤ 65535 → Steps program (program_of f far ++ rest)
    → IsJumpTarget far rest
    → AllOperationsPass program rest → AllOperationsPass program (program_of f far ++ rest)
program_passes (parts.Condition c) far program rest fours near to lands passes =
    grind (
      arith,
      operation_passes program (code_of c) (arguments c) far rest
          (condition_known c far rest) (condition_bits c far rest)
          (arguments_length_multiple_of_4 c) fours,
      condition_known c far rest,
      condition_bits c far rest,
      arguments_length_multiple_of_4 c,
    )
program_passes (parts.And' p a q b) far program rest fours near to lands passes =
    let first : List ℕ = program_of a (program_size b + far) in
    let second : List ℕ = program_of b far in
    let to_first = subst (Steps program) (append_assoc first second rest) to in
    let to_second = steps_on program (first ++ (second ++ rest)) (second ++ rest) to_first
    (over_program a (program_size b + far) (second ++ rest)) in
    let b_fours = program_size_multiple_of_4 b in
    before (AllOperationsPass program) first second rest
    (program_passes a (program_size b + far) program (second ++ rest) (omega arith)
    (omega arith) to_first
    (jump_target_after_prefix second rest far (program_size b) (over_program b far rest)
    (program_length b far) lands)
    (program_passes b far program rest fours (omega arith) to_second lands passes))
program_passes (parts.Or' p a q b) far program rest fours near to lands passes =
    let first : List ℕ = program_of a 4 in
    let second : List ℕ = program_of b far in
    let over : List ℕ = jump (program_size b) in
    let parted : (first ++ (over ++ second)) ++ rest ≡ first ++ (over ++ (second ++ rest)) =
    append_assoc first (over ++ second) rest
    ∙ ap (λ (l : List ℕ). first ++ l) (append_assoc over second rest) in
    let to_first = subst (Steps program) parted to in
    let to_jump = steps_on program (first ++ (over ++ (second ++ rest))) (over ++ (second ++ rest))
    to_first (over_program a 4 (over ++ (second ++ rest))) in
    let past_jump = over_operation 1 [] (program_size b) (second ++ rest) refl in
    let to_second = steps_on program (over ++ (second ++ rest)) (second ++ rest) to_jump
    past_jump in
    let long = length-append second rest in
    let second_long = program_length b far in
    subst (AllOperationsPass program) (sym parted)
    (program_passes a 4 program (over ++ (second ++ rest)) refl (omega arith) to_first
    (inr (second ++ rest, past_jump, omega arith))
    (jump_passes program (program_size b) (second ++ rest) (program_size_multiple_of_4 b)
    (omega arith) to_jump
    (inr (rest, over_program b far rest, omega arith))
    (program_passes b far program rest fours (omega arith) to_second lands passes)))
program_passes (parts.Not' p a) far program rest fours near to lands passes =
    let first : List ℕ = program_of a 4 in
    let to_first = subst (Steps program) (append_assoc first (jump far) rest) to in
    let past_jump = over_operation 1 [] far rest refl in
    let to_jump = steps_on program (first ++ (jump far ++ rest)) (jump far ++ rest) to_first
    (over_program a 4 (jump far ++ rest)) in
    before (AllOperationsPass program) first (jump far) rest
    (program_passes a 4 program (jump far ++ rest) refl (omega arith) to_first
    (inr (rest, past_jump, omega arith))
    (jump_passes program far rest fours (omega arith) to_jump lands passes))

-- A complete program passes the audit.
pub program_audited : (f : Filter) → program_size f ≤ 65531 → IsAudited (program_of f 4)
program_audited f short =
    let program : List ℕ = program_of f 4 in
    let whole = append-nil program in
    let some = program_size_at_least_4 f in
    let long = program_length f 4 in (
      omega arith,
      subst (AllOperationsPass program) whole
          (program_passes f 4 program [] refl (omega arith)
          (subst (Steps program) (sym whole) (there program)) (inl refl) at_end),
    )
