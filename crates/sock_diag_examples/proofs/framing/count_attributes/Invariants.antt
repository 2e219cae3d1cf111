use Rattle.std.proofs.Common.{◌+◌, ◌≤◌}
use Rattle.netlink_core.specs.Walk.{unread_bytes}
use Rattle.sock_diag_examples.proofs.Counted.{Counted}
use Rattle.sock_diag_examples.proofs.framing.count_attributes.Given as goal

-- `count` attributes are before the bytes that are left, and the count does not overflow
abbrev pub invariant-loop-item : goal.invariant-loop-item
invariant-loop-item l = record {
  counted : Counted l.bytes (unread_bytes l.item-iterator) l.count;
  room : l.count + goal.iterator-loop-item.remaining l.item-iterator
      ≤ goal.iterator-loop-item.remaining l.initial.item-iterator;
}
