-- How bytes are split, with the two cases of a padding apart.
use Rattle.std.proofs.Common.{◌≡◌, ◌<◌, ◌⊎◌, ◌↔◌, ℕ, List, [], ◌∷◌, ◌++◌, length, arith}
use Rattle.netlink_core.specs.Attribute.{Attribute, SplitsIntoAttributes, padding_length}
use Rattle.netlink_core.specs.Attribute.{header_and_value, FitsHeaderFields}
use Rattle.netlink_core.proofs.Splitting.{one_split_into_attributes}

-- bytes are split into an attribute and others if and only if its padding is complete and the
-- remaining bytes are split into the others, or its padding is short and nothing follows
pub endings_exclude_each_other : (bytes : List ℕ) (x : Attribute) (xs : List Attribute)
    → SplitsIntoAttributes bytes (x ∷ xs) []
    ↔ ((padding rest : List ℕ) × (bytes ≡ header_and_value x ++ (padding ++ rest))
    × FitsHeaderFields x
    × (((length padding ≡ padding_length (length x.value)) × SplitsIntoAttributes rest xs [])
    ⊎ ((length padding < padding_length (length x.value)) × (rest ≡ []) × (xs ≡ []))))
endings_exclude_each_other bytes x xs = (
  λ h. (h.1.padding, h.0, h.1.parts, h.1.fits, grind (arith, one_split_into_attributes h.0 xs [])),
  λ (padding, rest, parts, fits, how). (
    rest,
    record { padding = padding; parts = parts; fits = fits; filled = grind arith },
    grind arith,
  ),
)
