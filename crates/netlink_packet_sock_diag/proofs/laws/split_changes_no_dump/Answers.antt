use Rattle.std.proofs.Common.{List, ℕ, subst}
use Rattle.netlink_core.specs.Items.{IsItemOf}
use Rattle.netlink_packet_sock_diag.specs.Message.{message_codec}
use Rattle.netlink_packet_sock_diag.proofs.DumpRows.{DatagramDump, dump_of_split, split_of_dump}
use Rattle.netlink_packet_sock_diag.proofs.laws.split_changes_no_dump.Goals as goal

pub returns : goal.returns
returns c = λ datagrams others splits before after end d.
    let some = c.datagram_has_items.ensures in
    let one = c.one_list_of_items.ensures in
    split_of_dump (IsItemOf message_codec) some one others splits.1.0 splits.1.1 before after end
    (subst (λ (bytes : List ℕ). DatagramDump (IsItemOf message_codec) before bytes after end)
    splits.2
    (dump_of_split (IsItemOf message_codec) datagrams splits.0.1 before after end d))
