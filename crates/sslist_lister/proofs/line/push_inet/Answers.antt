use Rattle.sslist_lister.proofs.line.push_inet.Goals as goal

pub push_inet_socket-requires : goal.push_inet_socket-requires
push_inet_socket-requires c =
    rw c.new-found.ensures.sockets at c.in_ok-collect.ensures.summary

pub returns-clause-lines : goal.returns-clause-lines
returns-clause-lines c =
    rw (
      ← c.inet_sockets-expected.ensures,
      ← c.new-found.ensures.sockets,
      ← c.in_ok-collect.ensures.summary,
      ← c.protocol_in-protocol.ensures,
      ← c.is_association-is_association.ensures,
    )
    c.in_ok-push_inet_socket.ensures
