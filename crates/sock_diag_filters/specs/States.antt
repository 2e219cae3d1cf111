-- The states of sockets by their names.
use Rattle.std.specs.Prelude.{ℕ, ◌^◌, ◌==◌, Bool, not, nat_lt, if◌then◌else◌, List, Option}
use Rattle.std.specs.Prelude.{bit_and, option_map}
use Rattle.std.specs.Option.{option_or}
use Rattle.sock_diag_filters.specs.Rows.{value_named}
use Rattle.sock_diag_filters.specs.declared.text.states.TheConstants.{GROUPS, STATES}

-- The bit of a state in a set of states. All states from 31 on share bit 31.
abbrev pub state_bit : ℕ → ℕ
state_bit state = if nat_lt state 31 then 2 ^ state else 2 ^ 31

-- `has_state states state`: the bit of the state is set in `states`.
abbrev pub has_state : ℕ → ℕ → Bool
has_state states state = not (bit_and states (state_bit state) == 0)

-- The state with this name, or `None` if there is none.
unfoldable pub state_named : List ℕ → Option ℕ
state_named name = value_named STATES name

-- The set of the states in the group of this name, or `None` if there is none.
unfoldable pub group_named : List ℕ → Option ℕ
group_named name = value_named GROUPS name

-- The set of the states with this name, a bit for each: one state, or else a group. `None` if there
-- is none.
abbrev pub states_named : List ℕ → Option ℕ
states_named name = option_or (option_map state_bit (state_named name)) (group_named name)
