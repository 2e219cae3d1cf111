use Rattle.std.proofs.Common.{List}
use Rattle.netlink_core.specs.Walk.{unread_bytes}
use Rattle.netlink_core.proofs.Iterating.{DecodedSoFar}
use Rattle.sock_diag_filters.specs.InetRequests.{HasLastContents, RequestContent}
use Rattle.sock_diag_filters.specs.InetRequests.{decode_request_attribute}
use Rattle.sock_diag_filters.proofs.view.find_attributes.Given as goal

-- `found` has the last program and the last protocol of the attributes parsed so far.
abbrev pub invariant-loop-item : goal.invariant-loop-item
invariant-loop-item l = record {
  so_far : List RequestContent;
  walk : DecodedSoFar decode_request_attribute l.bytes so_far (unread_bytes l.item-iterator);
  keeps : HasLastContents l.found so_far;
}
