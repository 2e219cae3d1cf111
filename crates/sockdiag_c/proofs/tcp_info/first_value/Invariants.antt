use Rattle.netlink_core.specs.Walk.{unread_bytes}
use Rattle.sockdiag_c.proofs.Values.{FoundAfter}
use Rattle.sockdiag_c.proofs.tcp_info.first_value.Given as goal

-- no attribute of the kind was seen
abbrev pub invariant-loop-item : goal.invariant-loop-item
invariant-loop-item l = FoundAfter l.kind l.bytes (unread_bytes l.item-iterator)
