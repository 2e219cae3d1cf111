-- The bytes that are left at the first error of a reply.
use Rattle.std.proofs.Common.{◌≡◌, ◌+◌, ◌-◌, ◌++◌, ◌∷◌, ℕ, List, [], length, refl, sym, ap}
use Rattle.std.proofs.Common.{arith, subst}
use Rattle.netlink_core.specs.Attribute.{Attribute, SplitsIntoAttributes, StartsWithAttribute}
use Rattle.netlink_core.specs.Attribute.{padding_length}
use Rattle.std.proofs.lemmas.List.{length-append}

-- the attributes before, and one more
pub one_more_split : (bytes left after : List ℕ) (before : List Attribute) (a : Attribute)
    → SplitsIntoAttributes bytes before left → StartsWithAttribute left a after
    → SplitsIntoAttributes bytes (before ++ a ∷ []) after
one_more_split bytes left after [] a same start =
    (after, subst (λ (b : List ℕ). StartsWithAttribute b a after) (sym same) start, refl)
one_more_split bytes left after (b ∷ more) a (rest, first, split) start =
    (rest, first, one_more_split rest left after more a split start)

-- how many bytes are left after an attribute and its padding
pub left_after : (left after : List ℕ) (a : Attribute) → StartsWithAttribute left a after
    → length after ≡ length left
    - (4 + length a.value + padding_length (4 + length a.value))
left_after left after a s =
    grind (arith, ap length s.parts, length-append {A = ℕ}, s.filled)
