-- The states in the groups of states that have a name.
use Rattle.std.specs.Prelude.{◌≡◌, ℕ, ◌-◌, List, [], ◌∷◌, map, refl, sum_by}
use Rattle.sock_diag_records.specs.declared.constants.TheConstants.{TCP_CLOSE, TCP_LISTEN}
use Rattle.sock_diag_records.specs.declared.constants.TheConstants.{TCP_SYN_RECV, TCP_SYN_SENT}
use Rattle.sock_diag_records.specs.declared.constants.TheConstants.{TCP_TIME_WAIT}
use Rattle.sock_diag_filters.specs.States.{state_bit}
use Rattle.sock_diag_filters.specs.declared.text.states.TheConstants.{GROUPS}

-- The set of these states, a bit for each. No state may occur twice, because the bits are added.
abbrev pub only_states : List ℕ → ℕ
only_states states = sum_by state_bit states

-- The set of all states except these.
abbrev pub all_states_except : List ℕ → ℕ
all_states_except states = 0xffffffff - only_states states

-- The sets of `GROUPS`, in order: of `all`, `connected`, `synchronized`, `bucket` and `big`.
pub sets_of_groups : map (λ group. group.1) GROUPS
    ≡ all_states_except []
    ∷ all_states_except (TCP_CLOSE ∷ TCP_LISTEN ∷ [])
    ∷ all_states_except (TCP_CLOSE ∷ TCP_LISTEN ∷ TCP_SYN_SENT ∷ [])
    ∷ only_states (TCP_SYN_RECV ∷ TCP_TIME_WAIT ∷ [])
    ∷ all_states_except (TCP_SYN_RECV ∷ TCP_TIME_WAIT ∷ []) ∷ []
sets_of_groups = refl
