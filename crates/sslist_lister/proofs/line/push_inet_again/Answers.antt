use Rattle.sslist_lister.proofs.line.push_inet_again.Goals as goal

pub returns : goal.returns
returns c =
    rw (← c.new-found.ensures.sockets, ← c.in_ok-collect.ensures.summary)
    c.push_inet_output.ensures
