use Rattle.std.proofs.Common.{◌≡◌, arith}
use Rattle.sslist_lister.proofs.line.push_inet_socket.Goals as goal

pub returns-then-are_same : goal.returns-then-are_same
returns-then-are_same c =
    let same : c.inet_sockets-sockets.result ≡ c.args.expected =
    grind (arith, c.are_same.ensures, c.if-are_same.true) in
    rw (← c.inet_sockets-sockets.ensures, same, ← c.requires) c.push_inet_output.ensures

pub returns : goal.returns
returns c = rw (← c.inet_sockets-sockets.ensures) c.push_inet_again.ensures
