-- SCTP associations. The kernel sends a reply about an SCTP socket and one about each of its
-- associations, with the cookie and the inode of the socket. In the latter `idiag_state` is not a
-- TCP state, but one of the kernel's `enum sctp_state`.
use Rattle.std.specs.Prelude.{ℕ, ◌==◌, ◌&&◌, if◌then◌else◌, Bool, true, List, [], ◌∷◌, codes}
use Rattle.std.specs.Prelude.{Option, is_some, slice_get, unwrap_or}
use Rattle.std.specs.Option.{option_map_or}
use Rattle.sock_diag_records.specs.declared.constants.TheConstants.{INET_DIAG_PEERS, IPPROTO_SCTP}
use Rattle.sock_diag_records.specs.declared.constants.TheConstants.{TCP_CLOSE, TCP_ESTABLISHED}
use Rattle.sslist_lister.specs.Collected.{Summary, value_in}
use Rattle.sslist_lister.specs.declared.sctp.TheConstants.{NO_TCP_STATE}
use Rattle.sslist_texts.specs.Cells.{state_name}

-- `is_association protocol s`: a reply with the attributes `s` is about an association. The kernel
-- sends INET_DIAG_PEERS about each association, and about nothing else. `protocol` is the protocol
-- of the socket, None if that is not known.
abbrev pub is_association : Option ℕ → Summary → Bool
is_association protocol s =
    option_map_or (λ number. number == IPPROTO_SCTP) protocol true
    && is_some (value_in INET_DIAG_PEERS s)

-- the names of the states 0 to 7 of an association as ss(8) prints them, in the order of
-- `enum sctp_state`
abbrev pub association_state_names : List (List ℕ)
association_state_names =
    codes "CLOSED" ∷ codes "COOKIE_WAIT" ∷ codes "COOKIE_ECHOED" ∷ codes "ESTAB"
    ∷ codes "SHUTDOWN_PENDING" ∷ codes "SHUTDOWN_SENT" ∷ codes "SHUTDOWN_RECEIVED"
    ∷ codes "ACK_SENT" ∷ []

-- the name of a state of an association, UNKNOWN from 8 on
abbrev pub association_state_name : ℕ → List ℕ
association_state_name state =
    unwrap_or (slice_get association_state_names state) (codes "UNKNOWN")

-- `inet_state_name is_association state`: the name of the state of an IPv4 or IPv6 socket, or of an
-- association
abbrev pub inet_state_name : Bool → ℕ → List ℕ
inet_state_name is_association state =
    if is_association then association_state_name state else state_name state

-- the TCP state with the meaning of a state of an association: 0 is closed, and 3 established. No
-- other one has such a TCP state: then it is NO_TCP_STATE.
abbrev pub association_tcp_state : ℕ → ℕ
association_tcp_state state =
    if state == 0 then TCP_CLOSE else if state == 3 then TCP_ESTABLISHED else NO_TCP_STATE

-- `inet_tcp_state is_association state`: the state by which the options select an IPv4 or IPv6
-- socket, or an association
abbrev pub inet_tcp_state : Bool → ℕ → ℕ
inet_tcp_state is_association state =
    if is_association then association_tcp_state state else state
