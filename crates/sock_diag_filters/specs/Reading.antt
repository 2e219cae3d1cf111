-- How a filter's text is read word by word, in one pass: what may follow the words so far, and
-- which operators wait for the end of their operand. `Grammar` states which texts are filters, and
-- `Parsed` at which word others are rejected; this module defines how many parts a filter needs.
use Rattle.std.specs.Prelude.{ℕ, ◌+◌, Bool, true, false, if◌then◌else◌, List, [], ◌∷◌, ◌++◌}
use Rattle.std.specs.Prelude.{length, Option, None, Some, option_and_then, option_map, unwrap_or}
use Rattle.std.specs.Prelude.{bit_and, bit_or, bit_xor}
use Rattle.sock_diag_filters.specs.declared.condition.Condition.{Condition}
use Rattle.sock_diag_filters.specs.declared.condition.Condition.TheVariants.{AutoBound}
use Rattle.sock_diag_filters.specs.declared.text.keywords.Field.{Field}
use Rattle.sock_diag_filters.specs.declared.text.keywords.Keyword.{Keyword}
use Rattle.sock_diag_filters.specs.declared.text.keywords.Keyword.TheVariants as keywords
use Rattle.sock_diag_filters.specs.declared.text.keywords.Operator.{Operator}
use Rattle.sock_diag_filters.specs.declared.text.keywords.Operator.TheVariants.{Equal}
use Rattle.sock_diag_filters.specs.declared.text.parsed.Part.{Part}
use Rattle.sock_diag_filters.specs.declared.text.parsed.Part.TheVariants as parts
use Rattle.sock_diag_filters.specs.declared.text.reader.Pending.{Pending}
use Rattle.sock_diag_filters.specs.declared.text.reader.Pending.TheVariants as pending
use Rattle.sock_diag_filters.specs.declared.text.reader.Place.{Place}
use Rattle.sock_diag_filters.specs.declared.text.reader.Place.TheVariants as places
use Rattle.sock_diag_filters.specs.declared.text.states.TheConstants.{ALL}
use Rattle.sock_diag_filters.specs.Keywords.{comparison_of, is_negated, keyword_named, takes}
use Rattle.sock_diag_filters.specs.States.{states_named}
use Rattle.sock_diag_filters.specs.Values.{condition_in}

-- What is known after some words.
pub record State : Type 0 where
  -- what may follow
  pub place : Place
  -- the states that the words select, if they name any
  pub states : Option ℕ
  -- the operators and groups whose operand is not complete, the innermost first
  pub pending : List Pending
  -- the parts of the filter that are complete, in postfix order
  pub parts : List Part

-- Before the first word.
abbrev pub initial : State
initial = record { place = places.Start; states = None; pending = []; parts = [] }

-- The number of parts of the filter so far: its conditions, its operators and open groups.
abbrev pub size : State → ℕ
size s = length s.pending + length s.parts

-- The state `s` at another place.
abbrev pub at : Place → State → State
at place s = record { place = place; states = s.states; pending = s.pending; parts = s.parts }

-- The state `s` with one more operator or group whose operand follows.
abbrev pub with_pending : Pending → State → State
with_pending operator s = record {
  place = places.Operand;
  states = s.states;
  pending = operator ∷ s.pending;
  parts = s.parts;
}

-- The state `s` with these states.
abbrev pub with_states : ℕ → State → State
with_states states s = record {
  place = places.Start;
  states = Some states;
  pending = s.pending;
  parts = s.parts;
}

-- `pending_after pending`: what still waits after an operand is complete: operators up to the
-- innermost open group are complete with it.
abbrev pub pending_after : List Pending → List Pending
pending_after [] = []
pending_after (pending.Group ∷ outer) = pending.Group ∷ outer
pending_after (pending.Not ∷ outer) = pending_after outer
pending_after (pending.And ∷ outer) = pending_after outer
pending_after (pending.Or ∷ outer) = pending_after outer

-- The innermost operator as a part, or `None` if there is none or a group is inside it.
abbrev pub operator_of : List Pending → Option Part
operator_of [] = None
operator_of (pending.Group ∷ outer) = None
operator_of (pending.Not ∷ outer) = Some parts.Not
operator_of (pending.And ∷ outer) = Some parts.And
operator_of (pending.Or ∷ outer) = Some parts.Or

-- The parts that these operators add.
abbrev pub parts_after : List Pending → List Part
parts_after [] = []
parts_after (pending.Group ∷ outer) = []
parts_after (pending.Not ∷ outer) = parts.Not ∷ parts_after outer
parts_after (pending.And ∷ outer) = parts.And ∷ parts_after outer
parts_after (pending.Or ∷ outer) = parts.Or ∷ parts_after outer

-- The state after an operand that is complete.
abbrev pub completed : State → State
completed s = record {
  place = places.Operator;
  states = s.states;
  pending = pending_after s.pending;
  parts = s.parts ++ parts_after s.pending;
}

-- The state `s` after a condition, or the opposite of it if it is negated.
abbrev pub with_condition : Bool → Condition → State → State
with_condition negated condition s = completed record {
  place = s.place;
  states = s.states;
  pending = if negated then pending.Not ∷ s.pending else s.pending;
  parts = s.parts ++ parts.Condition condition ∷ [];
}

-- The state after the end of a group, or `None` if no group is open.
abbrev pub closed : State → List Pending → Option State
closed s (pending.Group ∷ outer) = Some (completed record {
  place = s.place;
  states = s.states;
  pending = outer;
  parts = s.parts;
})
closed s _ = None

-- The state after the first keyword of an operand, or `None` if none begins with it.
abbrev pub begun : State → Keyword → Option State
begun s keywords.Open = Some (with_pending pending.Group s)
begun s keywords.Not = Some (with_pending pending.Not s)
begun s (keywords.Field field) = Some (at (places.Field field) s)
begun s keywords.AutoBound = Some (with_condition false AutoBound s)
begun s keyword = None

-- The state after a keyword where an operand may begin, or `state` or `exclude`.
abbrev pub after_start : State → Keyword → Option State
after_start s keywords.State = Some (at places.Added s)
after_start s keywords.Exclude = Some (at places.Removed s)
after_start s keyword = begun s keyword

-- The state after a keyword that follows an operand. Without an operator, `and` is meant.
abbrev pub after_operand : State → Keyword → Option State
after_operand s keywords.And = Some (with_pending pending.And s)
after_operand s keywords.Or = Some (with_pending pending.Or s)
after_operand s keywords.Close = closed s s.pending
after_operand s keyword = begun (with_pending pending.And s) keyword

-- The state after the value of a condition.
abbrev pub after_value : Field → Operator → State → List ℕ → Option State
after_value field operator s value =
    option_map (λ condition. with_condition (is_negated operator) condition s)
    (condition_in field (comparison_of operator) value)

-- The state after an operator or a value of a condition on the field.
abbrev pub after_field : Field → State → List ℕ → Option Keyword → Option State
after_field field s word None = after_value field Equal s word
after_field field s word (Some (keywords.Operator operator)) =
    if takes field operator then Some (at (places.Value field operator) s) else None
after_field field s word (Some keyword) = None

-- The state after the value of a condition, which is not a keyword.
abbrev pub after_operator : Field → Operator → State → List ℕ → Option Keyword → Option State
after_operator field operator s word None = after_value field operator s word
after_operator field operator s word (Some keyword) = None

-- The text may end at this place with this to wait for.
abbrev pub is_complete_at : Place → List Pending → Bool
is_complete_at places.Start waiting = true
is_complete_at places.Operator [] = true
is_complete_at place waiting = false

-- `next_at place s word`: the state after the word at a place.
abbrev pub next_at : Place → State → List ℕ → Option State
next_at places.Start s word = option_and_then (after_start s) (keyword_named word)
next_at places.Added s word =
    option_map (λ named. with_states (bit_or (unwrap_or s.states 0) named) s) (states_named word)
next_at places.Removed s word =
    option_map (λ named. with_states (bit_and (unwrap_or s.states ALL) (bit_xor named ALL)) s)
    (states_named word)
next_at places.Operand s word = option_and_then (begun s) (keyword_named word)
next_at (places.Field field) s word = after_field field s word (keyword_named word)
next_at (places.Value field operator) s word =
    after_operator field operator s word (keyword_named word)
next_at places.Operator s word = option_and_then (after_operand s) (keyword_named word)

-- `next s word`: the state after the word, or `None` if it cannot follow the words before it.
abbrev pub next : State → List ℕ → Option State
next s word = next_at s.place s word

-- `reading s words`: the state after these words, or `None` if one of them cannot follow.
abbrev pub reading : State → List (List ℕ) → Option State
reading s [] = Some s
reading s (word ∷ later) = option_and_then (λ t. reading t later) (next s word)

-- The text may end in the state: no operand is expected, and no group is open.
abbrev pub is_complete : State → Bool
is_complete s = is_complete_at s.place s.pending
