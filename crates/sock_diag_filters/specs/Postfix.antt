-- Filters in postfix order.
use Rattle.std.specs.Prelude.{◌≡◌, ℕ, ◌+◌, length, List, [], ◌∷◌, ◌++◌, Option, None, Some, Bool}
use Rattle.std.specs.Prelude.{true, ◌&&◌, ◌||◌, not, drop, fold}
use Rattle.sock_diag_filters.specs.declared.condition.Condition.{Condition}
use Rattle.sock_diag_filters.specs.declared.filter.Filter.{Filter}
use Rattle.sock_diag_filters.specs.declared.filter.Filter.TheVariants as filters
use Rattle.sock_diag_filters.specs.declared.text.parsed.Part.{Part}
use Rattle.sock_diag_filters.specs.declared.text.parsed.Part.TheVariants as parts
use Rattle.sock_diag_filters.specs.declared.codes.TheConstants.{OPERATION_HEADER_LEN}
use Rattle.sock_diag_filters.specs.Conditions.{arguments}
use Rattle.sock_diag_filters.specs.Filters.{meaning, program_size}
use Rattle.sock_diag_filters.specs.Sockets.{AreConditionsInRange}
use Rattle.sock_diag_filters.specs.private.Assembly.{EndsWith, program_of}

-- `postfix filter`: the parts of the filter in postfix order: an operator follows its operands.
abbrev pub postfix : Filter → List Part
postfix (filters.Condition condition) = parts.Condition condition ∷ []
postfix (filters.And' p first q second) = postfix first ++ (postfix second ++ parts.And ∷ [])
postfix (filters.Or' p first q second) = postfix first ++ (postfix second ++ parts.Or ∷ [])
postfix (filters.Not' p filter) = postfix filter ++ parts.Not ∷ []

-- The parts of an optional filter in postfix order.
abbrev pub optional_postfix : Option Filter → List Part
optional_postfix None = []
optional_postfix (Some filter) = postfix filter

-- `optional_meaning met filter`: whether the filter selects a socket, if `met` says which
-- conditions the socket meets. Without a filter each socket is selected.
abbrev pub optional_meaning : (Condition → Bool) → Option Filter → Bool
optional_meaning met None = true
optional_meaning met (Some filter) = meaning met filter

-- ---- evaluation

-- The last of some verdicts, which are listed from the last one to the first one. True if there is
-- none, which no filter leads to.
abbrev pub last_verdict : List Bool → Bool
last_verdict [] = true
last_verdict (verdict ∷ before) = verdict

-- `with_part met verdicts part`: the verdicts after this part, which replaces those about its
-- operands by its own. They are listed from the last one to the first one. `met` says which
-- conditions are met.
abbrev pub with_part : (Condition → Bool) → List Bool → Part → List Bool
with_part met verdicts (parts.Condition condition) = met condition ∷ verdicts
with_part met verdicts parts.Not = not (last_verdict verdicts) ∷ drop 1 verdicts
with_part met verdicts parts.And =
    (last_verdict (drop 1 verdicts) && last_verdict verdicts) ∷ drop 2 verdicts
with_part met verdicts parts.Or =
    (last_verdict (drop 1 verdicts) || last_verdict verdicts) ∷ drop 2 verdicts

-- `are_met met parts`: whether the filter with these parts selects a socket, if `met` says which
-- conditions the socket meets. Without parts each socket is selected.
abbrev pub are_met : (Condition → Bool) → List Part → Bool
are_met met parts = last_verdict (fold (with_part met) [] parts)

-- ---- the last filter of some parts

-- `IsLast parts before filter`: the parts are `before` and then those of the filter.
abbrev pub IsLast : List Part → List Part → Filter → Type 0
IsLast parts before filter = parts ≡ before ++ postfix filter

-- The number of bytes that a part adds to a program.
abbrev pub part_size : Part → ℕ
part_size (parts.Condition condition) = OPERATION_HEADER_LEN + length (arguments condition)
part_size parts.And = 0
part_size parts.Or = OPERATION_HEADER_LEN
part_size parts.Not = OPERATION_HEADER_LEN

-- `IsLastWritten parts far old new len rest`: the program of the last filter of the parts, `len`
-- bytes, was written to the end of a buffer, and `rest` are the parts before the filter.
abbrev pub IsLastWritten : List Part → (far : ℕ) → (old new : List ℕ) → (len : ℕ) → List Part → Type
    0
IsLastWritten parts far old new len rest =
    (before : List Part) (filter : Filter) → IsLast parts before filter
    → (len ≡ program_size filter) × (rest ≡ before) × EndsWith old (program_of filter far) new
    × AreConditionsInRange filter
