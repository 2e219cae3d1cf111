-- Members of the headers of sockets in lines of JSON. Names of members are the kernel's names in
-- lowercase, without the prefix that all names of a struct have. Two members are added: `netid` and
-- `state_name` are the columns Netid and State of the table.
use Rattle.std.specs.Prelude.{List, [], ◌∷◌, ◌++◌, codes}
use Rattle.sock_diag_records.specs.declared.inet.response.InetResponseHeader.{InetResponseHeader}
use Rattle.sock_diag_records.specs.declared.unix.response.UnixResponseHeader.{UnixResponseHeader}
use Rattle.sock_diag_records.specs.declared.constants.TheConstants.{AF_UNIX}
use Rattle.sock_diag_any.specs.declared.header.RawTimer.{RawTimer}
use Rattle.sslist_texts.specs.Cells.{state_name}
use Rattle.sslist_texts.specs.JsonData.{JsonMember, address_member, cookie_member}
use Rattle.sslist_texts.specs.JsonData.{number_members, text_member}
use Rattle.sslist_lister.specs.Sctp.{inet_state_name}
use Rattle.sslist_lister.specs.Table.{inet_kind, unix_kind}
use Rattle.sslist_lister.specs.declared.line.InetSocket.{InetSocket}

-- The members of the header of a UNIX socket, `struct unix_diag_msg` of linux/unix_diag.h:
-- `udiag_family`, `udiag_type`, `udiag_state`, `udiag_ino` and `udiag_cookie`.
unfoldable pub unix_header_members : UnixResponseHeader → List JsonMember
unix_header_members h =
    text_member (codes "netid") (unix_kind h.kind)
    ++ (text_member (codes "state_name") (state_name h.state)
    ++ (number_members ((codes "family", AF_UNIX) ∷ (codes "type", h.kind) ∷
    (codes "state", h.state) ∷ (codes "ino", h.inode) ∷ [])
    ++ cookie_member h.cookie))

-- `inet_front_members timer h`: the members of the header of an IPv4 or IPv6 socket that precede
-- the addresses: `idiag_family`, `idiag_state`, `idiag_timer` and `idiag_retrans`, and
-- `idiag_sport` and `idiag_dport` of its `id`
abbrev pub inet_front_members : RawTimer → InetResponseHeader → List JsonMember
inet_front_members timer h =
    number_members ((codes "family", h.family) ∷ (codes "state", h.state) ∷
    (codes "timer", timer.kind) ∷ (codes "retrans", timer.retransmits) ∷
    (codes "sport", h.socket_id.source_port) ∷ (codes "dport", h.socket_id.destination_port) ∷ [])

-- `inet_back_members timer h`: the members of the header of an IPv4 or IPv6 socket that follow the
-- cookie: `idiag_expires` in milliseconds, `idiag_rqueue` and `idiag_wqueue` in bytes (of a
-- listening TCP, MPTCP or SCTP socket numbers of connections), `idiag_uid` and `idiag_inode`
abbrev pub inet_back_members : RawTimer → InetResponseHeader → List JsonMember
inet_back_members timer h =
    number_members ((codes "expires", timer.expires) ∷ (codes "rqueue", h.recv_queue) ∷
    (codes "wqueue", h.send_queue) ∷ (codes "uid", h.uid) ∷ (codes "inode", h.inode) ∷ [])

-- The members of the header of an IPv4 or IPv6 socket, `struct inet_diag_msg` of
-- linux/inet_diag.h. `src`, `dst`, `if` and `cookie` are `idiag_src`, `idiag_dst`, `idiag_if` and
-- `idiag_cookie` of its `id`.
unfoldable pub inet_header_members : InetSocket → List JsonMember
inet_header_members socket =
    text_member (codes "netid") (inet_kind socket.protocol socket.header.family)
    ++ (text_member (codes "state_name")
    (inet_state_name socket.is_association socket.header.state)
    ++ (inet_front_members socket.timer socket.header
    ++ (address_member (codes "src") socket.header.socket_id.source_address
    ++ (address_member (codes "dst") socket.header.socket_id.destination_address
    ++ (number_members ((codes "if", socket.header.socket_id.interface_id) ∷ [])
    ++ (cookie_member socket.header.socket_id.cookie
    ++ inet_back_members socket.timer socket.header))))))
