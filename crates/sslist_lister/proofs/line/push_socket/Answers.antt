use Rattle.std.proofs.Common.{◌∙◌, ◌++◌, ℕ, List, ap}
use Rattle.std.proofs.lemmas.Result.{on_ok_weaker}
use Rattle.sslist_lister.proofs.HeaderLines.{netlink_lines, xdp_lines}
use Rattle.sslist_lister.proofs.line.push_socket.Goals as goal

pub returns-in-Unix-clause-lines : goal.returns-in-Unix-clause-lines
returns-in-Unix-clause-lines c =
    rw c.in-Unix.is
    (rw (c.after_header-bytes.ensures, c.in-Unix.is) at c.push_unix.ensures.lines)

pub returns-in-Inet-clause-lines : goal.returns-in-Inet-clause-lines
returns-in-Inet-clause-lines c =
    rw c.in-Inet.is
    (rw (c.parse-timer.ensures, c.after_header-bytes.ensures, c.in-Inet.is) at
    c.push_inet.ensures.lines)

pub returns-in-Netlink-clause-lines : goal.returns-in-Netlink-clause-lines
returns-in-Netlink-clause-lines c =
    let same = netlink_lines c.args.options c.args.list c.args.requested c.args.payload.now
    c.after_header-bytes.result.now c.args.header c.in-Netlink.header c.in-Netlink.is
    c.after_header-bytes.ensures in
    on_ok_weaker c.push_other.result
    (λ lines. lines ∙ ap (λ (shown : List ℕ). c.args.text.now.items ++ shown) same)
    c.push_other.ensures.lines

pub returns-in-Packet-clause-lines : goal.returns-in-Packet-clause-lines
returns-in-Packet-clause-lines c =
    rw c.in-Packet.is
    (rw (c.after_header-bytes.ensures, c.in-Packet.is) at c.push_other-in-Packet.ensures.lines)

pub returns-in-Vsock-clause-lines : goal.returns-in-Vsock-clause-lines
returns-in-Vsock-clause-lines c =
    rw c.in-Vsock.is
    (rw (c.after_header-bytes.ensures, c.in-Vsock.is) at c.push_other-in-Vsock.ensures.lines)

pub returns-in-Xdp-clause-lines : goal.returns-in-Xdp-clause-lines
returns-in-Xdp-clause-lines c =
    let same = xdp_lines c.args.options c.args.list c.args.requested c.args.payload.now
    c.after_header-bytes.result.now c.args.header c.in-Xdp.header c.in-Xdp.is
    c.after_header-bytes.ensures in
    on_ok_weaker c.push_other-in-Xdp.result
    (λ lines. lines ∙ ap (λ (shown : List ℕ). c.args.text.now.items ++ shown) same)
    c.push_other-in-Xdp.ensures.lines
