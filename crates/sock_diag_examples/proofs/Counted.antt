-- Attributes that are counted while an iterator yields them.
use Rattle.std.proofs.Common.{Result, Ok, ◌≡◌, ◌≢◌, ℕ, suc, ◌+◌, List, [], ◌∷◌, ◌++◌, length, inl}
use Rattle.std.proofs.Common.{inr, refl, ap, ◌∙◌}
use Rattle.std.specs.List.{AllZip}
use Rattle.std.proofs.lemmas.List.{length-append}
use Rattle.netlink_core.specs.declared.error.DecodeError.{DecodeError}
use Rattle.netlink_core.specs.Attribute.{Attribute, SplitsIntoAttributes, SplitsUntilError}
use Rattle.netlink_core.specs.Attribute.{StartsWithAttribute, IsFramingError, HasAttributeError}
use Rattle.netlink_core.proofs.Iterating.{DecodedSoFar, nothing_decoded_yet, next_attribute_decoded}
use Rattle.netlink_core.proofs.Iterating.{all_attributes_decoded, framing_error_of_all}

-- parses an attribute as itself, so that only the framing is checked
abbrev pub attribute_itself : Attribute → Result Attribute DecodeError
attribute_itself a = Ok a

-- `count` attributes are before the bytes that are left
pub record Counted (bytes rest : List ℕ) (count : ℕ) : Type 0 where
  pub so_far : List Attribute
  pub walk : DecodedSoFar attribute_itself bytes so_far rest
  pub many : length so_far ≡ count

pub count_begins : (bytes : List ℕ) → Counted bytes bytes 0
count_begins bytes = record {
  so_far = [];
  walk = nothing_decoded_yet attribute_itself bytes;
  many = refl;
}

pub count_continues : (bytes rest after : List ℕ) (count : ℕ) (a : Attribute)
    → Counted bytes rest count → StartsWithAttribute rest a after → Counted bytes after (count + 1)
count_continues bytes rest after count a c s = record {
  so_far = c.so_far ++ a ∷ [];
  walk = next_attribute_decoded attribute_itself bytes rest after c.so_far a a c.walk s refl;
  many = length-append c.so_far (a ∷ []) ∙ ap (λ (n : ℕ). n + 1) c.many;
}

same_length : (xs ys : List Attribute) → AllZip (λ a b. attribute_itself a ≡ Ok b) xs ys
    → length xs ≡ length ys
same_length [] [] h = refl
same_length [] (y ∷ ys) h = absurd h
same_length (x ∷ xs) [] h = absurd h
same_length (x ∷ xs) (y ∷ ys) h = ap (λ (n : ℕ). suc n) (same_length xs ys h.1)

-- if nothing is left, all attributes were counted
pub count_ends : (bytes rest : List ℕ) (count : ℕ) → Counted bytes rest count → rest ≡ []
    → (xs : List Attribute) × SplitsIntoAttributes bytes xs [] × (length xs ≡ count)
count_ends bytes rest count c none =
    let all = all_attributes_decoded attribute_itself bytes rest c.so_far c.walk none in
    (all.0, all.1, same_length all.0 c.so_far all.2 ∙ c.many)

error_is_framing_error : (bytes : List ℕ) (e : DecodeError)
    → HasAttributeError attribute_itself bytes e
    → (xs : List Attribute) × SplitsUntilError IsFramingError bytes xs e
error_is_framing_error bytes e (xs, (rest, cut, some, error), good) = (
  xs,
  (
    rest,
    cut,
    some,
    elim error [
      | inl framing ↦ framing
      | inr refused ↦
          absurd (let wrong = refused.2 in cc)
    ],
  ),
)

-- a framing error follows the attributes that were counted
pub count_ends_at_error : (bytes rest : List ℕ) (count : ℕ) (e : DecodeError)
    → Counted bytes rest count → rest ≢ [] → IsFramingError rest e → (xs : List Attribute)
    × SplitsUntilError IsFramingError bytes xs e
count_ends_at_error bytes rest count e c some f =
    error_is_framing_error bytes e
    (framing_error_of_all attribute_itself bytes rest c.so_far e c.walk some f)

-- the steps of the loop invariant
pub ruleset counting_rules = (count_begins, count_continues)
