use Rattle.sock_diag_lines.proofs.dump_line.feed_field.Goals as goal

pub returns : goal.returns
returns c =
    let is = rw c.if-not-branch.false at c.in_ok-read_field.ensures in
    (c.as_slice.result.now, rw c.as_slice.ensures.value is, c.in_ok-feed_datagram.ensures)
