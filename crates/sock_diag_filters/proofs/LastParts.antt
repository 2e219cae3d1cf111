-- The program of the last filter of some parts.
use Rattle.std.proofs.Common.{◌≡◌, ◌∙◌, ℕ, ◌+◌, ◌-◌, ◌≤◌, List, [], ◌∷◌, ◌++◌}
use Rattle.std.proofs.Common.{refl, sym, ap, subst, append_assoc, arith, drop, length, take}
use Rattle.std.proofs.lemmas.List.{length-append, length-take-le}
use Rattle.std.proofs.lemmas.List.Sums.{sum_by-append}
use Rattle.std.specs.Prelude.{sum_by}
use Rattle.sock_diag_filters.specs.declared.codes.TheConstants.{OPERATION_HEADER_LEN}
use Rattle.sock_diag_filters.specs.declared.condition.Condition.{Condition}
use Rattle.sock_diag_filters.specs.declared.filter.Filter.{Filter}
use Rattle.sock_diag_filters.specs.declared.filter.Filter.TheVariants as filters
use Rattle.sock_diag_filters.specs.declared.text.parsed.Part.{Part}
use Rattle.sock_diag_filters.specs.declared.text.parsed.Part.TheVariants as parts
use Rattle.sock_diag_filters.specs.Conditions.{arguments, code_of}
use Rattle.sock_diag_filters.specs.Filters.{program_size}
use Rattle.sock_diag_filters.specs.Postfix.{IsLastWritten, part_size, postfix}
use Rattle.sock_diag_filters.specs.Sockets.{AreConditionsInRange, IsConditionInRange}
use Rattle.sock_diag_filters.specs.private.Assembly.{EndsWith, jump, operation, program_of}
use Rattle.sock_diag_filters.proofs.Ending.{ends_with_both}
use Rattle.sock_diag_filters.proofs.Operations.{program_length}

-- ---- the last part

-- The parts of a list but for the last one, and the last one.
front_of : List Part → List Part
front_of [] = []
front_of (x ∷ []) = []
front_of (x ∷ y ∷ ys) = x ∷ front_of (y ∷ ys)

last_of : List Part → Part
last_of [] = parts.And
last_of (x ∷ []) = x
last_of (x ∷ y ∷ ys) = last_of (y ∷ ys)

front_of_snoc : (xs : List Part) (x : Part) → front_of (xs ++ x ∷ []) ≡ xs
unfolding front_of
front_of_snoc [] x = refl
front_of_snoc (y ∷ []) x = refl
front_of_snoc (y ∷ z ∷ zs) x = ap (λ (l : List Part). y ∷ l) (front_of_snoc (z ∷ zs) x)

last_of_snoc : (xs : List Part) (x : Part) → last_of (xs ++ x ∷ []) ≡ x
unfolding last_of
last_of_snoc [] x = refl
last_of_snoc (y ∷ []) x = refl
last_of_snoc (y ∷ z ∷ zs) x = last_of_snoc (z ∷ zs) x

same_last : (xs ys : List Part) (x y : Part) → xs ++ x ∷ [] ≡ ys ++ y ∷ []
    → (x ≡ y) × (xs ≡ ys)
same_last xs ys x y h = (
  sym (last_of_snoc xs x) ∙ (ap last_of h ∙ last_of_snoc ys y),
  sym (front_of_snoc xs x) ∙ (ap front_of h ∙ front_of_snoc ys y),
)

-- `IsTop last rest before filter`: the parts `rest` and the part `last` are `before` and the parts
-- of the filter.
abbrev pub IsTop : Part → List Part → List Part → Filter → Type 0
IsTop last rest before (filters.Condition c) = (last ≡ parts.Condition c) × (rest ≡ before)
IsTop last rest before (filters.And' p a q b) =
    (last ≡ parts.And) × (rest ≡ (before ++ postfix a) ++ postfix b)
IsTop last rest before (filters.Or' p a q b) =
    (last ≡ parts.Or) × (rest ≡ (before ++ postfix a) ++ postfix b)
IsTop last rest before (filters.Not' p a) = (last ≡ parts.Not) × (rest ≡ before ++ postfix a)

binary_top : (rest before first second : List Part) (last part : Part)
    → rest ++ last ∷ [] ≡ before ++ (first ++ (second ++ part ∷ []))
    → (last ≡ part) × (rest ≡ (before ++ first) ++ second)
binary_top rest before first second last part h =
    same_last rest ((before ++ first) ++ second) last part
    (h ∙ sym (append_assoc (before ++ first) second (part ∷ [])
    ∙ append_assoc before first (second ++ part ∷ [])))

pub top_of : (rest : List Part) (last : Part) (before : List Part) (filter : Filter)
    → rest ++ last ∷ [] ≡ before ++ postfix filter → IsTop last rest before filter
top_of rest last before (filters.Condition c) h = same_last rest before last (parts.Condition c) h
top_of rest last before (filters.And' p a q b) h =
    binary_top rest before (postfix a) (postfix b) last parts.And h
top_of rest last before (filters.Or' p a q b) h =
    binary_top rest before (postfix a) (postfix b) last parts.Or h
top_of rest last before (filters.Not' p a) h =
    same_last rest (before ++ postfix a) last parts.Not (h ∙ sym (append_assoc before (postfix a)
    (parts.Not ∷ [])))

some_parts : (filter : Filter) → 1 ≤ length (postfix filter)
some_parts (filters.Condition c) = omega arith
some_parts (filters.And' p a q b) =
    omega (arith, some_parts a, length-append (postfix a) (postfix b ++ parts.And ∷ []))
some_parts (filters.Or' p a q b) =
    omega (arith, some_parts a, length-append (postfix a) (postfix b ++ parts.Or ∷ []))
some_parts (filters.Not' p a) =
    omega (arith, some_parts a, length-append (postfix a) (parts.Not ∷ []))

pub no_parts : (all before : List Part) (filter : Filter) → length all ≡ 0
    → all ≡ before ++ postfix filter → ⊥
no_parts all before filter none h =
    omega (
      arith,
      some_parts filter,
      ap (λ (l : List Part). length l) h,
      length-append before
          (postfix filter),
    )

-- ---- programs

-- The sizes of the parts of a filter are that of its program.
pub size_of_postfix : (filter : Filter) → sum_by part_size (postfix filter) ≡ program_size filter
size_of_postfix (filters.Condition c) = omega arith
size_of_postfix (filters.And' p a q b) =
    omega (
      arith,
      size_of_postfix a,
      size_of_postfix b,
      sum_by-append part_size (postfix a) (postfix b ++ parts.And ∷ []),
      sum_by-append part_size (postfix b) (parts.And ∷ []),
    )
size_of_postfix (filters.Or' p a q b) =
    omega (
      arith,
      size_of_postfix a,
      size_of_postfix b,
      sum_by-append part_size (postfix a) (postfix b ++ parts.Or ∷ []),
      sum_by-append part_size (postfix b) (parts.Or ∷ []),
    )
size_of_postfix (filters.Not' p a) =
    omega (arith, size_of_postfix a, sum_by-append part_size (postfix a) (parts.Not ∷ []))

last_fits : (all before : List Part) (filter : Filter) (n : ℕ) → sum_by part_size all ≤ n
    → all ≡ before ++ postfix filter → program_size filter ≤ n
last_fits all before filter n fits h =
    omega (
      arith,
      size_of_postfix filter,
      sum_by-append part_size before (postfix filter),
      ap (λ (l : List Part). sum_by part_size l) h,
    )

-- What `IsLastWritten` says of one filter.
abbrev Written : (far : ℕ) → (old new : List ℕ) → (len : ℕ) → List Part → List Part → Filter → Type
    0
Written far old new len rest before filter =
    (len ≡ program_size filter) × (rest ≡ before) × EndsWith old (program_of filter far) new
    × AreConditionsInRange filter

condition_in_part : Part → Condition → Condition
condition_in_part (parts.Condition c) d = c
condition_in_part parts.And d = d
condition_in_part parts.Or d = d
condition_in_part parts.Not d = d

condition_same : (c d : Condition) → parts.Condition c ≡ parts.Condition d → c ≡ d
unfolding condition_in_part
condition_same c d h = ap (λ (x : Part). condition_in_part x c) h

-- A buffer that was written to its end keeps its length.
length_after : (old written new : List ℕ) → length written ≤ length old → EndsWith old written new
    → length new ≡ length old
length_after old written new fits ends =
    omega (
      arith,
      ap (λ (l : List ℕ). length l) ends,
      length-append (take (length old - length written) old) written,
      length-take-le (length old - length written) old (omega arith),
    )

writes_condition : (rest : List Part) (c : Condition) (far : ℕ) (old new : List ℕ) (len : ℕ)
    → len ≡ OPERATION_HEADER_LEN + length (arguments c)
    → EndsWith old (operation (code_of c) (arguments c) far) new → IsConditionInRange c
    → (before : List Part) (filter : Filter) → IsTop (parts.Condition c) rest before filter
    → Written far old new len rest before filter
writes_condition rest c far old new len size ends range before (filters.Condition d) (is, same) =
    let e : c ≡ d = condition_same c d is in (
      subst (λ (x : Condition). len ≡ OPERATION_HEADER_LEN + length (arguments x)) e size,
      same,
      subst (λ (x : Condition). EndsWith old (operation (code_of x) (arguments x) far) new) e ends,
      subst IsConditionInRange e range,
    )
writes_condition rest c far old new len size ends range before (filters.And' p a q b) (is, same) =
    absurd (cc)
writes_condition rest c far old new len size ends range before (filters.Or' p a q b) (is, same) =
    absurd (cc)
writes_condition rest c far old new len size ends range before (filters.Not' p a) (is, same) =
    absurd (cc)

writes_not : (rest : List Part) (far : ℕ) (old middle new : List ℕ) (n len : ℕ)
    (outer : List Part) → EndsWith old (jump far) middle → n ≡ length middle - 4
    → IsLastWritten rest 4 (take n middle) new len outer
    → (before : List Part) (filter : Filter) → program_size filter ≤ length old
    → IsTop parts.Not rest before filter
    → Written far old (new ++ drop n middle) (len + 4) outer before filter
writes_not rest far old middle new n len outer after is h before (filters.Not' p a) fits (e, same) =
    let s = h before a same in (
      omega (arith, s.0),
      s.1,
      ends_with_both old middle new (program_of a 4) (jump far) n
          (omega (arith, program_length a 4)) after is s.2,
      s.3,
    )
writes_not rest far old middle new n len outer after is h before (filters.Condition d) fits (
  e,
  same,
) =
    absurd (cc)
writes_not rest far old middle new n len outer after is h before (filters.And' p a q b) fits (
  e,
  same,
) =
    absurd (cc)
writes_not rest far old middle new n len outer after is h before (filters.Or' p a q b) fits (
  e,
  same,
) =
    absurd (cc)

writes_and : (rest middle_parts : List Part) (far : ℕ) (old middle new : List ℕ) (n second first :
    ℕ)
    (outer : List Part) → IsLastWritten rest far old middle second middle_parts
    → n ≡ length middle - second
    → IsLastWritten middle_parts (second + far) (take n middle) new first outer
    → (before : List Part) (filter : Filter) → program_size filter ≤ length old
    → IsTop parts.And rest before filter
    → Written far old (new ++ drop n middle) (first + second) outer before filter
writes_and rest middle_parts far old middle new n second first outer h is k before (filters.And' p a
    q b) fits (e, same) =
    let s = h (before ++ postfix a) b same in
    let t = k before a s.1 in (
      omega (arith, s.0, t.0),
      t.1,
      ends_with_both old middle new (program_of a (program_size b + far)) (program_of b far) n
          (omega (arith, program_length a (program_size b + far), program_length b far)) s.2
          (omega (arith, is, s.0, program_length b far))
          (subst (λ (x : ℕ). EndsWith (take n middle) (program_of a (x + far)) new) s.0 t.2),
      (t.3, s.3),
    )
writes_and rest middle_parts far old middle new n second first outer h is k before
    (filters.Condition d) fits (e, same) =
    absurd (cc)
writes_and rest middle_parts far old middle new n second first outer h is k before (filters.Not' p
    a) fits (e, same) =
    absurd (cc)
writes_and rest middle_parts far old middle new n second first outer h is k before (filters.Or' p a
    q b) fits (e, same) =
    absurd (cc)

writes_or : (rest middle_parts : List Part) (far : ℕ) (old middle jumped new : List ℕ)
    (end n second first : ℕ) (outer : List Part)
    → IsLastWritten rest far old middle second middle_parts → end ≡ length middle - second
    → EndsWith (take end middle) (jump second) jumped → n ≡ end - 4
    → IsLastWritten middle_parts 4 (take n (jumped ++ drop end middle)) new first outer
    → (before : List Part) (filter : Filter) → program_size filter ≤ length old
    → IsTop parts.Or rest before filter
    → Written far old (new ++ drop n (jumped ++ drop end middle)) (first + 4 + second) outer before
    filter
writes_or rest middle_parts far old middle jumped new end n second first outer h is j m k before
    (filters.Or' p a q b) fits (e, same) =
    let s = h (before ++ postfix a) b same in
    let t = k before a s.1 in
    let at : end ≡ length middle - length (program_of b far) = omega (
      arith,
      is,
      s.0,
      program_length
          b far,
    ) in
    let both : EndsWith old (jump (program_size b) ++ program_of b far) (jumped ++ drop end middle)
    =
    ends_with_both old middle jumped (jump (program_size b)) (program_of b far) end
    (omega (arith, program_length b far)) s.2 at
    (subst (λ (x : ℕ). EndsWith (take end middle) (jump x) jumped) s.0 j) in
    let all = length_after old (jump (program_size b) ++ program_of b far) (jumped ++ drop end
    middle)
    (omega (arith, program_length b far, length-append (jump (program_size b)) (program_of b far)))
    both in
    let long = length_after old (program_of b far) middle (omega (arith, program_length b far)) s.2
    in (
      omega (arith, s.0, t.0),
      t.1,
      ends_with_both old (jumped ++ drop end middle) new (program_of a 4)
          (jump (program_size b) ++ program_of b far) n
          (omega (
            arith,
            program_length a 4,
            program_length b far,
            length-append (jump (program_size
                b)) (program_of b far),
          ))
          both
          (omega (
            arith,
            all,
            long,
            m,
            at,
            program_length b far,
            length-append (jump (program_size
                b)) (program_of b far),
          ))
          t.2,
      (t.3, s.3),
    )
writes_or rest middle_parts far old middle jumped new end n second first outer h is j m k before
    (filters.Condition d) fits (e, same) =
    absurd (cc)
writes_or rest middle_parts far old middle jumped new end n second first outer h is j m k before
    (filters.Not' p a) fits (e, same) =
    absurd (cc)
writes_or rest middle_parts far old middle jumped new end n second first outer h is j m k before
    (filters.And' p a q b) fits (e, same) =
    absurd (cc)

pub condition_written : (all rest : List Part) (c : Condition) (far : ℕ) (old new : List ℕ) (len :
    ℕ)
    → all ≡ rest ++ parts.Condition c ∷ [] → len ≡ OPERATION_HEADER_LEN + length (arguments c)
    → EndsWith old (operation (code_of c) (arguments c) far) new → IsConditionInRange c
    → IsLastWritten all far old new len rest
condition_written all rest c far old new len is size ends range before filter h =
    writes_condition rest c far old new len size ends range before filter
    (top_of rest (parts.Condition c) before filter (sym is ∙ h))

pub not_written : (all rest : List Part) (far : ℕ) (old middle new : List ℕ) (n len : ℕ)
    (outer : List Part) → all ≡ rest ++ parts.Not ∷ [] → sum_by part_size all ≤ length old
    → EndsWith old (jump far) middle → n ≡ length middle - 4
    → IsLastWritten rest 4 (take n middle) new len outer
    → IsLastWritten all far old (new ++ drop n middle) (len + 4) outer
not_written all rest far old middle new n len outer is whole after at h before filter k =
    writes_not rest far old middle new n len outer after at h before filter
    (last_fits all before filter (length old) whole k) (top_of rest parts.Not before filter (sym is
    ∙ k))

pub and_written : (all rest middle_parts : List Part) (far : ℕ) (old middle new : List ℕ)
    (n second first : ℕ) (outer : List Part) → all ≡ rest ++ parts.And ∷ []
    → sum_by part_size all ≤ length old
    → IsLastWritten rest far old middle second middle_parts → n ≡ length middle - second
    → IsLastWritten middle_parts (second + far) (take n middle) new first outer
    → IsLastWritten all far old (new ++ drop n middle) (first + second) outer
and_written all rest middle_parts far old middle new n second first outer is whole h at k before
    filter l =
    writes_and rest middle_parts far old middle new n second first outer h at k before filter
    (last_fits all before filter (length old) whole l) (top_of rest parts.And before filter (sym is
    ∙ l))

pub or_written : (all rest middle_parts : List Part) (far : ℕ) (old middle jumped new : List ℕ)
    (end n second first : ℕ) (outer : List Part) → all ≡ rest ++ parts.Or ∷ []
    → sum_by part_size all ≤ length old
    → IsLastWritten rest far old middle second middle_parts → end ≡ length middle - second
    → EndsWith (take end middle) (jump second) jumped → n ≡ end - 4
    → IsLastWritten middle_parts 4 (take n (jumped ++ drop end middle)) new first outer
    → IsLastWritten all far old (new ++ drop n (jumped ++ drop end middle)) (first + 4 + second)
    outer
or_written all rest middle_parts far old middle jumped new end n second first outer is whole h at j
    m k before filter l =
    writes_or rest middle_parts far old middle jumped new end n second first outer h at j m k before
    filter
    (last_fits all before filter (length old) whole l) (top_of rest parts.Or before filter (sym is ∙
    l))

-- No filter has no parts.
pub none_written : (all : List Part) (far : ℕ) (old new : List ℕ) (len : ℕ) (rest : List Part)
    → length all ≡ 0 → IsLastWritten all far old new len rest
none_written all far old new len rest none before filter h =
    absurd (no_parts all before filter none h)
