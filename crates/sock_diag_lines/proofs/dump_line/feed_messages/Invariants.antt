use Rattle.netlink_packet_sock_diag.specs.DumpWalk.{unread_views}
use Rattle.sock_diag_lines.proofs.DumpLaws.{ReadsSoFar}
use Rattle.sock_diag_lines.proofs.dump_line.feed_messages.Given as goal

-- the messages that were read did not end the dump, and were serialized
abbrev pub invariant-loop-item : goal.invariant-loop-item
invariant-loop-item l = ReadsSoFar l.datagram (unread_views l.item-iterator) l.fn.dump l.dump
