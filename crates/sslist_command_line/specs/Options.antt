-- Selection of the sockets that are listed, and of the details that are shown.
use Rattle.std.specs.Prelude.{ℕ, Bool, false, ◌||◌, ◌&&◌, not, ◌==◌, if◌then◌else◌, Option, None}
use Rattle.std.specs.Prelude.{Some, length, option_and_then, option_map, unwrap_or}
use Rattle.std.specs.Option.{option_map_or}
use Rattle.sock_diag_filters.specs.States.{has_state}
use Rattle.sslist_command_line.specs.declared.options.Detail.{Detail}
use Rattle.sslist_command_line.specs.declared.options.Detail.TheVariants.{Timer, Extended}
use Rattle.sslist_command_line.specs.declared.options.Detail.TheVariants.{Memory, Connection}
use Rattle.sslist_command_line.specs.declared.options.Family.{Family}
use Rattle.sslist_command_line.specs.declared.options.Family.TheVariants.{Netlink, Packet}
use Rattle.sslist_command_line.specs.declared.options.Family.TheVariants.{Vsock, Xdp}
use Rattle.sslist_command_line.specs.declared.options.Options.{Options}
use Rattle.sock_diag_records.specs.declared.constants.TheConstants.{TCP_CLOSE, TCP_LISTEN}
use Rattle.sslist_command_line.specs.declared.options.TheConstants.{IPPROTO_MPTCP}
use Rattle.sslist_command_line.specs.declared.options.TheConstants.{IPPROTO_TCP, IPPROTO_UDP}

-- `selects_detail options detail`: the option of this group of details is set
abbrev pub selects_detail : Options → Detail → Bool
selects_detail options Timer = options.timer
selects_detail options Extended = options.extended
selects_detail options Memory = options.memory
selects_detail options Connection = options.connection

-- `shows_detail options detail`: this group of details is shown: its option is set, or the option
-- of no group is.
abbrev pub shows_detail : Options → Detail → Bool
shows_detail options detail = selects_detail options detail
    || not (options.timer || options.extended || options.memory || options.connection)

-- the option of a protocol of IPv4 and IPv6 sockets is set: TCP, UDP or MPTCP
abbrev pub selects_inet_protocol : Options → Bool
selects_inet_protocol options = options.tcp || options.udp || options.mptcp

-- the option of a family other than IPv4 and IPv6 is set
abbrev pub selects_other_family : Options → Bool
selects_other_family options =
    options.unix || options.netlink || options.packet || options.vsock || options.xdp

-- an option that selects sockets is set
abbrev pub selects_sockets : Options → Bool
selects_sockets options =
    selects_inet_protocol options || options.inet || options.inet6 || selects_other_family options

-- the filter has conditions
abbrev pub has_conditions : Options → Bool
has_conditions options =
    option_map_or (λ filter. not (length filter.now.parts.items == 0)) options.filter false

-- `selects_state options state`: whether the filter selects sockets in this state; None if it names
-- no states
abbrev pub selects_state : Options → ℕ → Option Bool
selects_state options state = option_and_then
    (λ filter. option_map (λ states. has_state states state) filter.now.states) options.filter

-- `lists_state options state`: no socket is left out because it is in this state. If the filter
-- names states, it is one of these. Else it is any, or with `-l` TCP_LISTEN or TCP_CLOSE, as in
-- ss(8).
abbrev pub lists_state : Options → ℕ → Bool
lists_state options state = unwrap_or (selects_state options state)
    (not options.listening || state == TCP_LISTEN || state == TCP_CLOSE)

-- `lists_unix options state`: a UNIX socket in this state is listed. Three conditions must hold:
-- `-x` is set, or no option that selects sockets is; sockets in this state are listed
-- (`lists_state`); and the filter has no conditions, which only IPv4 and IPv6 sockets meet.
abbrev pub lists_unix : Options → ℕ → Bool
lists_unix options state =
    (options.unix || not (selects_sockets options)) && lists_state options state
    && not (has_conditions options)

-- `selects_protocol options protocol`: the option of this protocol, a number IPPROTO_.., is set.
-- None is a protocol that is not known, which can be any of the three.
abbrev pub selects_protocol : Options → Option ℕ → Bool
selects_protocol options None = options.tcp || options.udp || options.mptcp
selects_protocol options (Some protocol) =
    if protocol == IPPROTO_TCP then options.tcp else if protocol == IPPROTO_UDP then options.udp
    else if protocol == IPPROTO_MPTCP then options.mptcp else false

-- `lists_protocol options protocol`: IPv4 and IPv6 sockets of this protocol may be listed. They may
-- if the option of the protocol is set. They also may if the option of no protocol is set, and if
-- `-4` or `-6` is set or the option of no other family is set.
abbrev pub lists_protocol : Options → Option ℕ → Bool
lists_protocol options protocol = selects_protocol options protocol
    || (not (selects_inet_protocol options)
    && (options.inet || options.inet6 || not (selects_other_family options)))

-- `lists_version options is_ipv6`: IPv6 sockets, or IPv4 sockets if `is_ipv6` is false, may be
-- listed: the option of this version is set, or that of the other one is not
abbrev pub lists_version : Options → Bool → Bool
lists_version options is_ipv6 =
    if is_ipv6 then options.inet6 || not options.inet else options.inet || not options.inet6

-- `selects_family options family`: the option of this family is set
abbrev pub selects_family : Options → Family → Bool
selects_family options Netlink = options.netlink
selects_family options Packet = options.packet
selects_family options Vsock = options.vsock
selects_family options Xdp = options.xdp

-- `lists_family options family state`: a socket of this family in this state is listed. Three
-- conditions must hold: the option of the family is set, or no option that selects sockets is; the
-- state leaves no socket out; and the filter has no conditions, which only IPv4 and IPv6 sockets
-- meet.
abbrev pub lists_family : Options → Family → ℕ → Bool
lists_family options family state =
    (selects_family options family || not (selects_sockets options)) && lists_state options state
    && not (has_conditions options)
