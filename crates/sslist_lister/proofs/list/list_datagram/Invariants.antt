use Rattle.std.proofs.Common.{◌≡◌, ℕ, List, ◌++◌, length}
use Rattle.std.specs.List.{flat_map, list_all}
use Rattle.netlink_core.specs.DatagramWalk.{unread_messages}
use Rattle.sslist_lister.specs.Diagnostics.{lines_about}
use Rattle.sslist_lister.specs.Listing.{is_clean_message, message_lines}
use Rattle.sslist_lister.specs.Messages.{message_in}
use Rattle.sslist_lister.specs.Requests.{past_requests}
use Rattle.sslist_lister.proofs.MessageWalk.{ReadSoFar}
use Rattle.sslist_lister.proofs.list.list_datagram.Given as goal

-- the messages so far were listed and diagnosed
abbrev pub invariant-loop-item : goal.invariant-loop-item
invariant-loop-item l = record {
  passed : List (List ℕ);
  read : ReadSoFar l.datagram (unread_messages l.item-iterator) passed;
  lines : l.written.lines.items ≡ l.fn.written.lines.items
      ++ flat_map (λ m. message_lines l.options (past_requests l.requests) (message_in m)) passed;
  clean : l.is_clean ≡ list_all (λ m. is_clean_message (message_in m)) passed;
  diagnosed : l.written.diagnostics.items ≡ l.fn.written.diagnostics.items
      ++ lines_about l.fn.written.front.now l.number 1 passed;
  counted : l.count ≡ length passed;
  front : l.written.front ≡ l.fn.written.front;
}
