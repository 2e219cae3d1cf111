-- Consecutive attributes that are measured.
use Rattle.std.proofs.Common.{Option, Some, None, ◌≡◌, ℕ, ◌+◌, ◌-◌, ◌≤◌, List, [], ◌∷◌, length}
use Rattle.std.proofs.Common.{arith}
use Rattle.std.specs.Prelude.{◌↔◌, IfSome, MatchOption, SomeIff}
use Rattle.std.specs.List.{flat_map}
use Rattle.std.proofs.lemmas.List.{length-append}
use Rattle.netlink_core.specs.Attribute.{Attribute, AreWritableWithin, FitsLengthField}
use Rattle.netlink_core.specs.Attribute.{attribute_bytes}

-- The remaining attributes fit the remaining room if and only if all attributes fit the limit, and
-- then they leave the same room. There is no remaining room if all do not fit, or without a limit.
abbrev pub Leaves : Option ℕ → List Attribute → Option ℕ → List Attribute → Type 0
Leaves None all room left = room ≡ None
Leaves (Some limit) all None left = ¬ AreWritableWithin all limit
Leaves (Some limit) all (Some room) left =
    (AreWritableWithin left room ↔ AreWritableWithin all limit)
    × (limit + length (flat_map attribute_bytes left)
    ≡ room + length (flat_map attribute_bytes all))

-- one more attribute leaves the room without its bytes, if it fits
pub leaves_less : (limit : Option ℕ) (all later : List Attribute) (a : Attribute)
    (room less : Option ℕ) → MatchOption room (less ≡ None) (λ room.
    SomeIff less (FitsLengthField a × (length (attribute_bytes a) ≤ room))
    (room - length (attribute_bytes a)))
    → Leaves limit all room (a ∷ later) → Leaves limit all less later
leaves_less limit all later a room less step leaves =
    grind (arith, length-append (attribute_bytes a) (flat_map attribute_bytes later))

-- at the end, at most the limit is left
pub leaves_within : (limit : Option ℕ) (all : List Attribute) (room : Option ℕ)
    → Leaves limit all room [] → IfSome limit (λ limit. IfSome room (λ room. room ≤ limit))
leaves_within limit all room leaves =
    grind arith

-- the used part of the limit is the number of bytes of all attributes, if they fit
pub leaves_end : (limit : Option ℕ) (all : List Attribute) (room used : Option ℕ)
    → Leaves limit all room [] → MatchOption limit (used ≡ None) (λ limit.
    MatchOption room (used ≡ None) (λ room. used ≡ Some (limit - room)))
    → MatchOption limit (used ≡ None) (λ limit.
    SomeIff used (AreWritableWithin all limit) (length (flat_map attribute_bytes all)))
leaves_end limit all room used leaves step =
    grind arith
