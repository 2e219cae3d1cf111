use Rattle.std.specs.Prelude.{map}
use Rattle.netlink_core.specs.DatagramWalk.{unread_messages}
use Rattle.netlink_packet_sock_diag.proofs.Dumping.{ReadingRest}
use Rattle.netlink_packet_sock_diag.proofs.dump.generic.take_messages.Given as goal

-- the messages that were read did not end the dump, and the dump continues with the bytes that are
-- left
abbrev pub invariant-loop-item : goal.invariant-loop-item
invariant-loop-item g l =
    ReadingRest g.I.DumpEntry.item_is l.datagram (unread_messages l.item-iterator)
    (map g.I.DumpEntry.model l.fn.messages.items) (map g.I.DumpEntry.model l.messages.items)
    l.fn.interrupted l.interrupted
