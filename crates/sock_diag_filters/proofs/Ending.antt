-- Buffers that are written from their end to their start.
use Rattle.std.proofs.Common.{◌≡◌, ℕ, ◌+◌, ◌-◌, ◌≤◌, List, ◌++◌, length, take, drop, subst, arith}
use Rattle.std.proofs.Math.Seq.{take-append_seam, drop-append_seam}
use Rattle.std.proofs.lemmas.List.{take-take, length-append, length-take-le, append_assoc}
use Rattle.sock_diag_filters.specs.private.Assembly.{EndsWith}

-- The two parts of a list that `front ++ q` is equal to.
parts_of_append : (front q middle : List ℕ) (n : ℕ) → middle ≡ front ++ q → n ≡ length front
    → (take n middle ≡ front) × (drop n middle ≡ q)
parts_of_append front q middle n same at =
    (grind (arith, take-append_seam front q), grind (arith, drop-append_seam front q))

-- If a buffer ends with `q`, and the part before `q` is made to end with `p`, it ends with both.
pub ends_with_both : (old middle new p q : List ℕ) (n : ℕ) → length p + length q ≤ length old
    → EndsWith old q middle → n ≡ length middle - length q
    → EndsWith (take n middle) p new
    → EndsWith old (p ++ q) (new ++ drop n middle)
ends_with_both old middle new p q n fits before is after =
    let front = take (length old - length q) old in
    let long : length front ≡ length old - length q =
    length-take-le (length old - length q) old (omega arith) in
    let same : middle ≡ front ++ q = before in
    let size : length middle ≡ length front + length q =
    grind (arith, same, length-append front q) in
    let at : n ≡ length front = omega (arith, size, is) in
    let both = parts_of_append front q middle n same at in
    let shorter : length front - length p ≡ length old - length (p ++ q) =
    omega (arith, long, length-append p q) in
    let kept : take (length front - length p) front
    ≡ take (length front - length p) old =
    take-take (length front - length p) (length old - length q) old (omega (arith, long)) in
    let written : new ≡ take (length front - length p) front ++ p =
    subst (λ (l : List ℕ). EndsWith l p new) both.0 after in
    grind (
      arith,
      both.1,
      written,
      kept,
      shorter,
      append_assoc (take (length front - length p) old) p q,
    )

-- A buffer that was written from its end to its start contains what was written.
pub ends_at_start : (old written new : List ℕ) → length old ≡ length written
    → EndsWith old written new → new ≡ written
ends_at_start old written new same ends =
    let none : length old - length written ≡ 0 = omega (arith, same) in
    subst (λ (n : ℕ). new ≡ take n old ++ written) none ends
