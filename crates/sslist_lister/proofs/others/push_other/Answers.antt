use Rattle.sslist_lister.proofs.others.push_other.Goals as goal

pub returns-clause-lines : goal.returns-clause-lines
returns-clause-lines g c =
    rw (
      ← c.sockets.ensures,
      ← c.new-found.ensures.sockets,
      ← c.in_ok-collect.ensures.summary,
      ← c.socket-socket.ensures,
    )
    c.in_ok-push_output.ensures
