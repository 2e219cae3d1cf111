-- Lines of the table for UNIX, IPv4 and IPv6 sockets. `s` is what a reply has in its attributes.
use Rattle.std.specs.Prelude.{ℕ, ◌==◌, nat_lt, if◌then◌else◌, ◌&&◌, Bool, List, [], ◌∷◌, ◌++◌}
use Rattle.std.specs.Prelude.{length, codes, Option, None, Some, slice_index, option_map, drop}
use Rattle.std.specs.Prelude.{◌||◌, false, option_and_then}
use Rattle.std.specs.Option.{option_map_or}
use Rattle.sslist_texts.specs.Cells.{FirstColumns, column, endpoint, first_columns}
use Rattle.sslist_texts.specs.Cells.{number_or_star, state_name}
use Rattle.sslist_lister.specs.Widths.{name_column}
use Rattle.sslist_lister.specs.Parts.{no_timer, details_after_separator}
use Rattle.sslist_texts.specs.Escapes.{byte_digits, unescaped_bytes, shown_name}
use Rattle.sslist_command_line.specs.declared.options.Options.{Options}
use Rattle.sslist_command_line.specs.declared.options.TheConstants.{IPPROTO_MPTCP}
use Rattle.sslist_command_line.specs.declared.options.TheConstants.{IPPROTO_TCP, IPPROTO_UDP}
use Rattle.sock_diag_records.specs.declared.unix.response.UnixResponseHeader.{UnixResponseHeader}
use Rattle.sock_diag_records.specs.declared.constants.TheConstants.{AF_INET6, IPPROTO_DCCP}
use Rattle.sock_diag_records.specs.declared.constants.TheConstants.{INET_DIAG_SKV6ONLY}
use Rattle.sock_diag_records.specs.declared.constants.TheConstants.{IPPROTO_RAW, IPPROTO_SCTP}
use Rattle.sock_diag_records.specs.declared.constants.TheConstants.{IPPROTO_UDPLITE, SOCK_DGRAM}
use Rattle.sock_diag_records.specs.declared.constants.TheConstants.{SOCK_SEQPACKET, SOCK_STREAM}
use Rattle.sock_diag_records.specs.declared.constants.TheConstants.{UNIX_DIAG_NAME}
use Rattle.sock_diag_records.specs.declared.constants.TheConstants.{UNIX_DIAG_PEER, UNIX_DIAG_RQLEN}
use Rattle.sock_diag_attributes.specs.declared.unix.name.SocketName.{SocketName}
use Rattle.sock_diag_attributes.specs.declared.unix.name.SocketName.TheVariants.{Abstract, Pathname}
use Rattle.sslist_lister.specs.Details.{details}
use Rattle.sslist_lister.specs.Sctp.{inet_state_name}
use Rattle.sslist_lister.specs.declared.line.InetSocket.{InetSocket}
use Rattle.sslist_lister.specs.declared.line.TheConstants.{LOCAL_WIDTH, NO_INTERFACE}
use Rattle.sock_diag_any.specs.declared.nla.Sockets.{Sockets}
use Rattle.sock_diag_any.specs.declared.nla.Sockets.TheVariants.{Inet}
use Rattle.sock_diag_any.specs.declared.nla.InfoFormat.{InfoFormat}
use Rattle.sock_diag_any.specs.declared.nla.InfoFormat.TheVariants.{Mptcp, Sctp, Tcp}
use Rattle.sock_diag_any.specs.declared.nla.InfoFormat.TheVariants.{Unknown}
use Rattle.sock_diag_any.specs.AnyNla.{AnyValue}
use Rattle.sock_diag_any.specs.AnyNla as any
use Rattle.sock_diag_any.specs.AnyParts.{owner_of, peer_of, queue_lengths_of}
use Rattle.sock_diag_any.specs.AnyParts.{socket_name_of}
use Rattle.sslist_lister.specs.Collected.{Summary, value_in}
use Rattle.sock_diag_extras.specs.declared.constants.TheConstants.{UNIX_DIAG_UID}

-- ---- UNIX sockets

-- `needs_escaped_first_byte path`: the path begins with `@` (64), like an abstract name, or is `*`
-- (42), which means that there is no name
abbrev pub needs_escaped_first_byte : List ℕ → Bool
needs_escaped_first_byte path = (nat_lt 0 (length path) && (slice_index path 0 == 64))
    || ((length path == 1) && (slice_index path 0 == 42))

-- `path_text utf8 path`: the text of a path, as `shown_name` shows it. The first byte of a path
-- that `needs_escaped_first_byte` is shown as `\x` and two hex digits (`byte_digits`), since the
-- cell would else be that of an abstract name or of no name. `utf8`: the option `--utf8`.
abbrev pub path_text : Bool → List ℕ → List ℕ
path_text utf8 path =
    if needs_escaped_first_byte path
    then byte_digits (slice_index path 0) ++ shown_name utf8 (drop 1 path)
    else shown_name utf8 path

-- `unix_kind kind`: the column Netid of a UNIX socket, by its type `SOCK_..`
abbrev pub unix_kind : ℕ → List ℕ
unix_kind kind =
    if kind == SOCK_STREAM then codes "u_str" else if kind == SOCK_DGRAM then codes "u_dgr"
    else if kind == SOCK_SEQPACKET then codes "u_seq" else codes "unix"

-- `name_cell utf8 name`: the cell of a name: a path, or `@` (64) and an abstract name, or `*` if
-- there is no name (None)
abbrev pub name_cell : Bool → Option (SocketName (List ℕ)) → List ℕ
name_cell utf8 None = codes "*"
name_cell utf8 (Some (Pathname path)) = path_text utf8 path
name_cell utf8 (Some (Abstract address)) = 64 ∷ shown_name utf8 address

-- `name_of_cell cell`: the name that a cell of `name_cell` shows, if a space (32) follows it: `*`
-- (42) and a space are no name (None), `@` (64) begins an abstract name, and anything else is a
-- path
abbrev pub name_of_cell : List ℕ → Option (SocketName (List ℕ))
name_of_cell cell =
    if (slice_index cell 0 == 42) && (slice_index cell 1 == 32) then None
    else if slice_index cell 0 == 64 then Some (Abstract (unescaped_bytes 0 (drop 1 cell)))
    else Some (Pathname (unescaped_bytes 0 cell))

-- ---- IPv4 and IPv6 sockets

-- the name of a family: `inet6` for AF_INET6, or else `inet`
abbrev pub family_name : ℕ → List ℕ
family_name family = if family == AF_INET6 then codes "inet6" else codes "inet"

-- `inet_kind protocol family`: the column Netid of an IPv4 or IPv6 socket: the name of the protocol
-- by its number IPPROTO_.., as ss(8) prints it. If the protocol is not known (None) or has no name
-- here, it is the name of the family.
abbrev pub inet_kind : Option ℕ → ℕ → List ℕ
inet_kind None family = family_name family
inet_kind (Some protocol) family =
    if protocol == IPPROTO_TCP then codes "tcp" else if protocol == IPPROTO_UDP then codes "udp"
    else if protocol == IPPROTO_DCCP then codes "dccp"
    else if protocol == IPPROTO_SCTP then codes "sctp"
    else if protocol == IPPROTO_UDPLITE then codes "udplite"
    else if protocol == IPPROTO_RAW then codes "raw"
    else if protocol == IPPROTO_MPTCP then codes "mptcp" else family_name family

-- ---- lines

-- `unix_first_columns h queues uid`: the first columns of the UNIX socket with the header `h`.
-- `queues` are the lengths of the receive queue (`.0`) and the send queue (`.1`), and `uid` is the
-- user id of the owner; each is None if the reply does not have it.
abbrev pub unix_first_columns : UnixResponseHeader → Option (ℕ × ℕ) → Option ℕ → FirstColumns
unix_first_columns h queues uid = record {
  kind = unix_kind h.kind;
  state = state_name h.state;
  receive_queue = option_map (λ lengths. lengths.0) queues;
  send_queue = option_map (λ lengths. lengths.1) queues;
  inode = h.inode;
  uid = uid;
}

-- `unix_columns o h s`: the columns of a UNIX socket, whose header is `h`: the first columns, the
-- cell of the name, and the peer. The name is in the attribute UNIX_DIAG_NAME, the inode of the
-- peer in UNIX_DIAG_PEER, the lengths of the queues in UNIX_DIAG_RQLEN, and the user id in
-- UNIX_DIAG_UID. `name_column` measures the width of the cell.
abbrev pub unix_columns : Options → UnixResponseHeader → Summary → List ℕ
unix_columns o h s =
    first_columns (unix_first_columns h
    (option_and_then queue_lengths_of (value_in UNIX_DIAG_RQLEN s))
    (option_and_then owner_of (value_in UNIX_DIAG_UID s)))
    ++ name_column o.utf8 LOCAL_WIDTH
    (name_cell o.utf8 (option_and_then socket_name_of (value_in UNIX_DIAG_NAME s)))
    ++ number_or_star (option_and_then peer_of (value_in UNIX_DIAG_PEER s))

-- the first columns of an IPv4 or IPv6 socket
abbrev pub inet_first_columns : InetSocket → FirstColumns
inet_first_columns socket = record {
  kind = inet_kind socket.protocol socket.header.family;
  state = inet_state_name socket.is_association socket.header.state;
  receive_queue = Some socket.header.recv_queue;
  send_queue = Some socket.header.send_queue;
  inode = socket.header.inode;
  uid = Some socket.header.uid;
}

-- an attribute says that its socket is for IPv6 only
abbrev pub says_v6_only : AnyValue → Bool
says_v6_only (any.v6_only only) = only
says_v6_only other = false

-- a reply with the attributes `s` says that its socket is for IPv6 only: its first valid
-- INET_DIAG_SKV6ONLY is not 0. False if it has none.
abbrev pub is_v6_only : Summary → Bool
is_v6_only s = option_map_or says_v6_only (value_in INET_DIAG_SKV6ONLY s) false

-- `table_line cells local peer`: a line without its details: the first columns, then the local
-- address, padded to a width, then the peer's, which is not padded
abbrev pub table_line : FirstColumns → List ℕ → List ℕ → List ℕ
table_line cells local peer = first_columns cells ++ column LOCAL_WIDTH local ++ peer

-- `inet_columns socket s`: the columns of an IPv4 or IPv6 socket. The interface is shown after the
-- local address only, so the endpoint of the peer has NO_INTERFACE.
abbrev pub inet_columns : InetSocket → Summary → List ℕ
inet_columns socket s =
    let id = socket.header.socket_id in
    table_line (inet_first_columns socket)
    (endpoint (is_v6_only s) id.source_address id.interface_id id.source_port)
    (endpoint (is_v6_only s) id.destination_address NO_INTERFACE id.destination_port)

-- `unix_lines o h s`: the lines of a UNIX socket: the columns, the details and a line feed (10)
abbrev pub unix_lines : Options → UnixResponseHeader → Summary → List ℕ
unix_lines o h s =
    unix_columns o h s ++ details_after_separator o (details o no_timer h.cookie s) ++ 10 ∷ []

-- the format of INET_DIAG_INFO of a socket of this protocol; Unknown for any other protocol, or if
-- it is not known (None)
abbrev pub info_of_protocol : Option ℕ → InfoFormat
info_of_protocol None = Unknown
info_of_protocol (Some protocol) =
    if protocol == IPPROTO_TCP then Tcp else if protocol == IPPROTO_MPTCP then Mptcp
    else if protocol == IPPROTO_SCTP then Sctp else Unknown

-- `inet_sockets protocol is_association`: the sockets that a reply about an IPv4 or IPv6 socket of
-- this protocol is about, or about an SCTP association, whose protocol may be unknown
abbrev pub inet_sockets : Option ℕ → Bool → Sockets
inet_sockets protocol is_association =
    Inet (if is_association then Sctp else info_of_protocol protocol)

-- `inet_lines o socket s`: the lines of an IPv4 or IPv6 socket: the columns, the details and a line
-- feed (10)
abbrev pub inet_lines : Options → InetSocket → Summary → List ℕ
inet_lines o socket s =
    inet_columns socket s
    ++ details_after_separator o (details o socket.timer socket.header.socket_id.cookie s)
    ++ 10 ∷ []
