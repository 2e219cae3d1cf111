use Rattle.std.proofs.Common.{◌≡◌, List, Result, Ok, Err, subst}
use Rattle.std.specs.Prelude.{IfOk, map, ℕ}
use Rattle.std.specs.Iterator.{Drains}
use Rattle.std.specs.List.{filter_map}
use Rattle.netlink_core.specs.Items.{IsItemOf, AreItemsOf}
use Rattle.netlink_core.specs.declared.error.DecodeError.{DecodeError}
use Rattle.netlink_packet_sock_diag.specs.PayloadViewModel.{PayloadView, payload_view_model}
use Rattle.netlink_packet_sock_diag.specs.DumpWalk.{YieldsPayloadView}
use Rattle.netlink_packet_sock_diag.specs.Message.{message_codec}
use Rattle.netlink_core.specs.Errors.{map_ok}
use Rattle.sock_diag_examples.specs.Lister.{AreLinesOf, line_of}
use Rattle.sock_diag_examples.proofs.lister.list.Goals as goal

-- a consequence of the value of a result
on_ok : {A E : Type 0} (P Q : A → Type 0) (r : Result A E) → ((v : A) → P v → Q v) → IfOk r P
    → IfOk r Q
on_ok P Q (Ok v) follows h = follows v h
on_ok P Q (Err e) follows h = h

pub returns : goal.returns
returns c = on_ok
    (λ lines. (given : List (Result PayloadView DecodeError))
    × Drains YieldsPayloadView c.new.result given
    × (lines.items ≡ filter_map line_of (map (map_ok payload_view_model) given)))
    (λ lines. AreLinesOf c.args.datagram.now lines.items)
    c.lines_of.result
    (λ lines h. record {
      items = map (map_ok payload_view_model) h.0;
      are_items = subst
          (λ (bytes : List ℕ). AreItemsOf (IsItemOf message_codec) bytes
          (map (map_ok payload_view_model) h.0))
          c.new.ensures (c.complete_views_are_the_datagram.ensures c.new.result h.0 h.1);
      are_lines = h.2;
    })
    c.lines_of.ensures
