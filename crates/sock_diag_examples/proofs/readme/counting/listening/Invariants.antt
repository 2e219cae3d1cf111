use Rattle.netlink_core.specs.DatagramWalk.{unread_messages}
use Rattle.sock_diag_examples.proofs.CountingListeners.{Counting}
use Rattle.sock_diag_examples.proofs.readme.counting.listening.Given as goal

-- `count` listening sockets are before the bytes that are left
abbrev pub invariant-loop-item : goal.invariant-loop-item
invariant-loop-item l = Counting l.datagram (unread_messages l.item-iterator.messages) l.count
