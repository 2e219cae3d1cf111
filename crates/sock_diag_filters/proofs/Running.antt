-- The verdict of a run of a filter's program is the meaning of the filter.
use Rattle.std.proofs.Common.{◌≡◌, ◌∙◌, ℕ, ◌+◌, ◌<◌, ◌≤◌, ◌⊎◌, List, [], ◌++◌, length, drop, refl}
use Rattle.std.proofs.Common.{sym, ap, subst, arith, inl, inr, Bool, true, false, append-nil}
use Rattle.std.proofs.Common.{append_assoc}
use Rattle.std.specs.Prelude.{◌&&◌, ◌||◌, not, ◌==◌, if◌then◌else◌}
use Rattle.std.proofs.Math.Seq.{drop-append-add, take-append_seam}
use Rattle.std.proofs.lemmas.List.{drop_at, length-append}
use Rattle.sock_diag_filters.specs.declared.condition.Condition.{Condition}
use Rattle.sock_diag_filters.specs.declared.filter.Filter.{Filter}
use Rattle.sock_diag_filters.specs.declared.filter.Filter.TheVariants as parts
use Rattle.sock_diag_filters.specs.Conditions.{arguments, code_of}
use Rattle.sock_diag_filters.specs.Filters.{meaning, program_size}
use Rattle.sock_diag_filters.specs.Audit.{no_at, yes_at}
use Rattle.sock_diag_filters.specs.Run.{Runs, arguments_at, ends, goes_on, goes_past, is_met}
use Rattle.sock_diag_filters.specs.Run.{distance_to_next}
use Rattle.sock_diag_filters.specs.private.Assembly.{jump, operation, program_of}
use Rattle.sock_diag_filters.proofs.Operations.{bytes_after_operation, no_of_operation}
use Rattle.sock_diag_filters.proofs.Operations.{operation_length, program_length}

-- ---- Boolean values

both_true : (a b : Bool) → a ≡ true → b ≡ true → (a && b) ≡ true
both_true a b h k =
    grind arith

second_false : (a b : Bool) → b ≡ false → (a && b) ≡ false
second_false a b h =
    grind arith

first_false : (a b : Bool) → a ≡ false → (a && b) ≡ false
first_false a b h =
    grind arith

first_true : (a b : Bool) → a ≡ true → (a || b) ≡ true
first_true a b h =
    grind arith

second_true : (a b : Bool) → b ≡ true → (a || b) ≡ true
second_true a b h =
    grind arith

both_false : (a b : Bool) → a ≡ false → b ≡ false → (a || b) ≡ false
both_false a b h k =
    grind arith

is_false : (a : Bool) → a ≡ true → not a ≡ false
is_false a h = ap not h

is_true : (a : Bool) → a ≡ false → not a ≡ true
is_true a h = ap not h

-- What follows from each of the two values of a `Bool` holds.
either : (b : Bool) (P : Type 0) → (b ≡ true → P) → (b ≡ false → P) → P
either b P wanted unwanted =
    grind arith

-- ---- codes and arguments

no_nop : (c : Condition) → (code_of c == 0) ≡ false
no_nop c =
    grind arith

no_jump : (c : Condition) → (code_of c == 1) ≡ false
no_jump c =
    grind arith

arguments_are : (code : ℕ) (args : List ℕ) (far : ℕ) (rest : List ℕ)
    → arguments_at (operation code args far ++ rest) ≡ args
arguments_are code args far rest =
    grind (arith, take-append_seam args rest)

module _ (condition_met : ℕ → List ℕ → Bool) where
  is_met-operation : (c : Condition) (far : ℕ) (rest : List ℕ)
      → is_met condition_met (operation (code_of c) (arguments c) far ++ rest)
      ≡ condition_met (code_of c) (arguments c)
  is_met-operation c far rest =
      grind (
        arith,
        operation (code_of c) (arguments c) far,
        no_nop c,
        no_jump c,
        arguments_are (code_of c) (arguments c) far rest,
      )

  -- The verdict `v` of a run that continues `far` bytes after the start of `rest`: the verdict of
  -- the run there, or `false` if this is past the end.
  abbrev ContinuesWithVerdict : ℕ → List ℕ → Bool → Type 0
  ContinuesWithVerdict far rest v =
      ((far ≤ length rest) × Runs condition_met (drop far rest) v)
      ⊎ ((length rest < far) × (v ≡ false))

  continues_after_prefix : (front rest : List ℕ) (far own : ℕ) (v : Bool) → length front ≡ own
      → ContinuesWithVerdict far rest v → ContinuesWithVerdict (own + far) (front ++ rest) v
  continues_after_prefix front rest far own v long goes =
      grind (arith, length-append front rest, drop-append-add front rest far)

  operation_runs : (code : ℕ) (args : List ℕ) (far : ℕ) (rest : List ℕ) (v : Bool)
      → 4 + length args + far ≤ 65535
      → (is_met condition_met (operation code args far ++ rest) ≡ true → Runs condition_met rest v)
      → (is_met condition_met (operation code args far ++ rest) ≡ false
      → ContinuesWithVerdict far rest v)
      → Runs condition_met (operation code args far ++ rest) v
  operation_runs code args far rest v near wanted unwanted =
      let left : List ℕ = operation code args far ++ rest in
      let no_is : no_at left ≡ 4 + length args + far = no_of_operation code args far rest near in
      let own = operation_length code args far in
      let long : length left ≡ 4 + length args + length rest =
      length-append (operation code args far) rest ∙ ap (λ (n : ℕ). n + length rest) own in
      either (is_met condition_met left) (Runs condition_met left v)
      (λ met.
      let takes : distance_to_next condition_met left ≡ yes_at left =
      ap (λ (b : Bool). if b then yes_at left else no_at left) met in
      goes_on left v (omega arith) (omega arith)
      (subst (λ (l : List ℕ). Runs condition_met l v)
      (sym (ap (λ (n : ℕ). drop n left) takes ∙ bytes_after_operation code args far rest))
      (wanted met)))
      (λ unmet.
      let takes : distance_to_next condition_met left ≡ 4 + length args + far =
      ap (λ (b : Bool). if b then yes_at left else no_at left) unmet ∙ no_is in
      let goes = continues_after_prefix (operation code args far) rest far (4 + length args) v own
      (unwanted unmet) in
      elim goes [
        | inl within ↦
            let less = within.0 in
            goes_on left v (omega arith) (omega arith)
            (subst (λ (l : List ℕ). Runs condition_met l v)
            (sym (ap (λ (n : ℕ). drop n left) takes)) within.1)
        | inr past ↦
            let more = past.0 in
            subst (λ (w : Bool). Runs condition_met left w) (sym past.1)
            (goes_past left (omega arith) (omega arith))
      ])

  jump_runs : (far : ℕ) (rest : List ℕ) (v : Bool) → 4 + far ≤ 65535
      → ContinuesWithVerdict far rest v
      → Runs condition_met (jump far ++ rest) v
  jump_runs far rest v near goes =
      operation_runs 1 [] far rest v (omega arith) (λ met. absurd cc) (λ unmet. goes)

  -- Whether the filter selects the socket.
  abbrev filter_selects : Filter → Bool
  filter_selects f = meaning (λ (c : Condition). condition_met (code_of c) (arguments c)) f

  program_runs : (f : Filter) (far : ℕ) (rest : List ℕ) (v : Bool) → program_size f + far ≤ 65535
      → (filter_selects f ≡ true → Runs condition_met rest v)
      → (filter_selects f ≡ false → ContinuesWithVerdict far rest v)
      → Runs condition_met (program_of f far ++ rest) v
  program_runs (parts.Condition c) far rest v near wanted unwanted =
      grind (
        arith,
        is_met-operation c far rest,
        operation_runs (code_of c) (arguments c) far rest v,
      )
  program_runs (parts.And' p a q b) far rest v near wanted unwanted =
      grind (
        arith,
        program_of b far,
        append_assoc (program_of a (program_size b + far)),
        program_of a (program_size b + far),
        program_runs a (program_size b + far),
        program_runs b far rest v,
        both_true,
        second_false,
        continues_after_prefix,
        program_length b far,
        first_false,
      )
  program_runs (parts.Or' p a q b) far rest v near wanted unwanted =
      grind (
        arith,
        program_of a 4,
        program_of b far,
        jump (program_size b),
        append_assoc,
        program_length b far,
        length-append,
        program_runs a 4,
        jump_runs (program_size b),
        drop_at,
        first_true,
        program_runs b far rest v,
        second_true,
        both_false,
      )
  program_runs (parts.Not' p a) far rest v near wanted unwanted =
      grind (
        arith,
        append_assoc (program_of a 4) (jump far) rest,
        program_of a 4,
        jump far,
        program_runs a 4 (jump far ++ rest) v,
        jump_runs far rest v,
        is_false,
        is_true,
      )

  pub program_verdict_is_meaning : (f : Filter) → program_size f ≤ 65531
      → Runs condition_met (program_of f 4) (filter_selects f)
  program_verdict_is_meaning f short =
      subst (λ (l : List ℕ). Runs condition_met l (filter_selects f)) (append-nil (program_of f 4))
      (program_runs f 4 [] (filter_selects f) (omega arith)
      (λ is. subst (Runs condition_met []) (sym is) (ends [] refl))
      (λ is. inr (omega arith, is)))
