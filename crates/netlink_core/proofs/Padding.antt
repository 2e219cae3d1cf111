-- The padding after an attribute, and induction on the number of bytes.
use Rattle.std.proofs.Common.{zero, suc, ◌≢◌, inl, inr, refl, ◌∷◌, [], ◌<◌, ◌⊎◌, ◌≡◌, ℕ, ◌+◌, List}
use Rattle.std.proofs.Common.{◌++◌, length, take, drop, arith}
use Rattle.std.proofs.lemmas.List.{take-append-drop, length-take, drop_all}
use Rattle.std.proofs.Math.Seq.{drop-append-add}
use Rattle.netlink_core.specs.Attribute.{Attribute, HasAttributePrefix, StartsWithAttribute}
use Rattle.netlink_core.specs.Attribute.{padding_length, header_and_value}

-- the bytes `tail` are the padding, up to `n` bytes, and `rest`; the padding is shorter only if
-- nothing follows
pub padding_and_rest : (n : ℕ) (tail rest : List ℕ) → rest ≡ drop n tail
    → (tail ≡ take n tail ++ rest)
    × ((length (take n tail) ≡ n) ⊎ ((length (take n tail) < n) × (rest ≡ [])))
padding_and_rest n tail rest rest-is =
    grind (arith, take-append-drop n tail, length-take n tail, drop_all n tail)

-- bytes that begin with an attribute are the attribute, its padding, and `rest`
pub starts_with_attribute : (bytes rest : List ℕ) (a : Attribute) (end : ℕ)
    → HasAttributePrefix bytes a
    → end ≡ 4 + length a.value + padding_length (4 + length a.value) → rest ≡ drop end bytes
    → StartsWithAttribute bytes a rest
starts_with_attribute bytes rest a end head end-is rest-is =
    let n : ℕ = padding_length (length a.value) in
    let end-at : end ≡ length (header_and_value a) + n = omega arith in
    let behind = padding_and_rest n head.0 rest
    (cc (drop-append-add (header_and_value a) head.0 n)) in
    record { padding = take n head.0; parts = cc; fits = head.2; filled = behind.1 }

-- a property holds of all bytes if it holds of bytes whenever it holds of all fewer bytes
pub by_length : (P : List ℕ → Type 0) → ((bytes : List ℕ)
    → ((rest : List ℕ) → length rest < length bytes → P rest) → P bytes)
    → (bytes : List ℕ) → P bytes
by_length P step bytes = within (suc (length bytes)) bytes (omega arith)
  where
    within : (n : ℕ) (b : List ℕ) → length b < n → P b
    within zero b short = absurd (omega arith)
    within (suc n) b short = step b (λ rest fewer. within n rest (omega arith))

pub some_or_none : (bytes : List ℕ) → (bytes ≡ []) ⊎ (bytes ≢ [])
some_or_none [] = inl refl
some_or_none (b ∷ bytes) = inr (λ e. cc)
