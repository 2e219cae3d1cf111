-- What a filter compares of a socket, as a reply of the kernel or another source states it.
use Rattle.std.specs.Prelude.{Bool, true, false, ◌&&◌, is_some, unwrap_or}
use Rattle.sock_diag_filters.specs.SocketEnds.{end_of}
use Rattle.sock_diag_filters.specs.Sockets.{Socket, meets}
use Rattle.sock_diag_filters.specs.declared.condition.Condition.{Condition}
use Rattle.sock_diag_filters.specs.declared.condition.Condition.TheVariants as conditions
use Rattle.sock_diag_filters.specs.declared.filter.Filter.{Filter}
use Rattle.sock_diag_filters.specs.declared.filter.Filter.TheVariants as filters
use Rattle.sock_diag_filters.specs.declared.text.facts.SocketFacts.{SocketFacts}

-- The socket with these facts. A fact that is not known is 0 or false.
abbrev pub socket_of : SocketFacts → Socket
socket_of facts = record {
  source = end_of facts.source facts.source_port;
  destination = end_of facts.destination facts.destination_port;
  interface = facts.interface;
  mark = unwrap_or facts.mark 0;
  cgroup = unwrap_or facts.cgroup 0;
  is_auto_bound = unwrap_or facts.is_auto_bound false;
}

-- `is_known facts condition`: what the condition compares is known.
abbrev pub is_known : SocketFacts → Condition → Bool
is_known facts (conditions.Mark mark mask) = is_some facts.mark
is_known facts (conditions.Cgroup number) = is_some facts.cgroup
is_known facts conditions.AutoBound = is_some facts.is_auto_bound
is_known facts condition = true

-- `are_known facts filter`: what the conditions of the filter compare is known.
abbrev pub are_known : SocketFacts → Filter → Bool
are_known facts (filters.Condition condition) = is_known facts condition
are_known facts (filters.And' p first q second) = are_known facts first && are_known facts second
are_known facts (filters.Or' p first q second) = are_known facts first && are_known facts second
are_known facts (filters.Not' p filter) = are_known facts filter

-- `facts_meet facts condition`: the socket meets the condition, and what it compares is known.
abbrev pub facts_meet : SocketFacts → Condition → Bool
facts_meet facts condition = is_known facts condition && meets (socket_of facts) condition
