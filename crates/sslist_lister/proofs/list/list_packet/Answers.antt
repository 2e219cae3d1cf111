use Rattle.netlink_captures.specs.Capture.{captured_packet}
use Rattle.sslist_lister.proofs.Packets.{complete_if_not_truncated}
use Rattle.sslist_lister.proofs.Packets.{listed_without_errors}
use Rattle.sslist_lister.proofs.list.list_packet.Goals as goal

pub returns-clause-lists : goal.returns-clause-lists
returns-clause-lists c =
    listed_without_errors _ _ (captured_packet c.args.packet.now c.args.header.now) _ _ _ _
    c.in_ok-is_whole.ensures.whole
    (rw c.in_ok-is_whole.ensures.lines at c.in_ok-is_listed.ensures.lists)

pub returns-clause-diagnosed : goal.returns-clause-diagnosed
returns-clause-diagnosed c =
    let whole = complete_if_not_truncated _ _ _ c.in_ok-is_whole.ensures.whole in
    rw (c.in_ok-is_whole.ensures.diagnostics, c.in_ok-is_whole.ensures.front, whole) at
    c.in_ok-is_listed.ensures.diagnosed
