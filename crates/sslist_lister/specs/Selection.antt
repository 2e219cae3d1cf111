-- Selection of the IPv4 and IPv6 sockets that are listed. `s` is what a reply has in its
-- attributes.
use Rattle.std.specs.Prelude.{Bool, true, ◌&&◌, ◌==◌, None, option_and_then}
use Rattle.std.specs.Option.{option_map_or}
use Rattle.sock_diag_records.specs.declared.constants.TheConstants.{AF_INET6, INET_DIAG_MARK}
use Rattle.sock_diag_any.specs.AnyParts.{cgroup_id_of, mark_of}
use Rattle.sock_diag_extras.specs.declared.constants.TheConstants.{INET_DIAG_CGROUP_ID}
use Rattle.sock_diag_filters.specs.Postfix.{are_met}
use Rattle.sock_diag_filters.specs.SocketFacts.{facts_meet}
use Rattle.sock_diag_filters.specs.declared.text.facts.SocketFacts.{SocketFacts}
use Rattle.sslist_lister.specs.Collected.{Summary, value_in}
use Rattle.sslist_lister.specs.Sctp.{inet_tcp_state}
use Rattle.sslist_command_line.specs.Options.{lists_protocol, lists_state, lists_version}
use Rattle.sslist_command_line.specs.declared.options.Options.{Options}
use Rattle.sslist_lister.specs.declared.line.InetSocket.{InetSocket}

-- `socket_facts socket s`: what a filter compares of a socket. No reply says whether the socket was
-- bound to its local port.
abbrev pub socket_facts : InetSocket → Summary → SocketFacts
socket_facts socket s =
    let id = socket.header.socket_id in
    record {
      source = id.source_address;
      destination = id.destination_address;
      source_port = id.source_port;
      destination_port = id.destination_port;
      interface = id.interface_id;
      mark = option_and_then mark_of (value_in INET_DIAG_MARK s);
      cgroup = option_and_then cgroup_id_of (value_in INET_DIAG_CGROUP_ID s);
      is_auto_bound = None;
    }

-- `meets_filter o socket s`: the socket meets the filter of the options, if there is one: that with
-- these parts in postfix order
abbrev pub meets_filter : Options → InetSocket → Summary → Bool
meets_filter o socket s = option_map_or
    (λ filter. are_met (facts_meet (socket_facts socket s)) filter.now.parts.items) o.filter true

-- `lists_inet o socket s`: the options select an IPv4 or IPv6 socket. They list sockets of its
-- protocol, of its IP version and in its state, and it meets their filter.
abbrev pub lists_inet : Options → InetSocket → Summary → Bool
lists_inet o socket s =
    let h = socket.header in
    lists_protocol o socket.protocol && lists_version o (h.family == AF_INET6)
    && lists_state o (inet_tcp_state socket.is_association h.state) && meets_filter o socket s
