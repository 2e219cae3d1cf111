-- The state of a `Reader`, and what reading a word does to it.
use Rattle.std.specs.Prelude.{true, false, ◌≡◌, ◌<◌, ⊤, reverse, Option, None, Some, Result, Ok}
use Rattle.std.specs.Prelude.{Err}
use Rattle.sock_diag_filters.specs.Reading.{State, is_complete, size}
use Rattle.sock_diag_filters.specs.declared.text.parsed.FilterTextError.{FilterTextError}
use Rattle.sock_diag_filters.specs.declared.text.parsed.FilterTextError.TheVariants.{Incomplete}
use Rattle.sock_diag_filters.specs.declared.text.parsed.ParsedFilter.{ParsedFilter}
use Rattle.sock_diag_filters.specs.declared.text.parsed.TheConstants.{MAX_PARTS}
use Rattle.sock_diag_filters.specs.declared.text.reader.Problem.{Problem}
use Rattle.sock_diag_filters.specs.declared.text.reader.Problem.TheVariants.{TooLong, Unexpected}
use Rattle.sock_diag_filters.specs.declared.text.reader.Reader.{Reader}

-- The state of a reader.
abbrev pub state_of : Reader → State
state_of reader = record {
  place = reader.place;
  states = reader.states;
  pending = reverse reader.pending.items;
  parts = reader.parts.items;
}

-- `Follows next result reader`: with the result, the reader is in the state `next`. Fails with
-- `Unexpected` if there is no such state, and with `TooLong` if its size exceeds MAX_PARTS.
abbrev pub Follows : Option State → Result ⊤ Problem → Reader → Type 0
Follows (Some state) (Ok done) reader = state_of reader ≡ state
Follows (Some state) (Err TooLong) reader = MAX_PARTS < size state
Follows (Some state) (Err Unexpected) reader = ⊥
Follows None (Ok done) reader = ⊥
Follows None (Err TooLong) reader = ⊥
Follows None (Err Unexpected) reader = ⊤

-- `IsFinished state result`: the filter has the states and the parts of the state, if the text may
-- end in it.
abbrev pub IsFinished : State → Result ParsedFilter FilterTextError → Type 0
IsFinished state (Ok parsed) =
    (is_complete state ≡ true) × (parsed.states ≡ state.states)
    × (parsed.parts.items ≡ state.parts)
IsFinished state (Err e) = (is_complete state ≡ false) × (e ≡ Incomplete)
