-- A complete iteration over the payloads of the messages of a datagram yields the items of the
-- datagram.
use Rattle.std.proofs.Common.{Result, ◌≡◌, inl, inr, List, [], ◌∷◌, refl, arith}
use Rattle.std.specs.Prelude.{map}
use Rattle.std.specs.Iterator.{Drains}
use Rattle.netlink_core.specs.declared.error.DecodeError.{DecodeError}
use Rattle.netlink_core.specs.Items.{IsItemOf, AreItemsOf}
use Rattle.netlink_core.proofs.Datagrams.{shorter-rest}
use Rattle.netlink_core.proofs.Items.{leading_item, no_items, error_is_only_item}
use Rattle.netlink_packet_sock_diag.specs.declared.dump.views.DumpViews.{DumpViews}
use Rattle.netlink_packet_sock_diag.specs.PayloadViewModel.{PayloadView, payload_view_model}
use Rattle.netlink_core.specs.DatagramWalk.{unread_messages}
use Rattle.netlink_packet_sock_diag.specs.DumpWalk.{YieldsPayloadView}
use Rattle.netlink_packet_sock_diag.specs.Message.{message_codec}
use Rattle.netlink_core.specs.Errors.{map_ok}

-- nothing is yielded if no bytes are left
nothing_more : (walk : DumpViews) (given : List (Result PayloadView DecodeError))
    → Drains YieldsPayloadView walk given → unread_messages walk.messages ≡ [] → given ≡ []
nothing_more walk [] h none = refl
nothing_more walk (g ∷ given) h none =
    grind (arith, shorter-rest (unread_messages walk.messages))

pub drained_views_are_all : (walk : DumpViews) (given : List (Result PayloadView DecodeError))
    → Drains YieldsPayloadView walk given
    → AreItemsOf (IsItemOf message_codec) (unread_messages walk.messages)
    (map (map_ok payload_view_model) given)
drained_views_are_all walk [] h = rw (h.1.1, h.1.2.0) (no_items (IsItemOf message_codec))
drained_views_are_all walk (g ∷ given) h =
    let bytes = unread_messages walk.messages in
    let later : Drains YieldsPayloadView h.1.1.0 given = (h.0, (h.1.0, h.1.1.2, h.1.2)) in
    elim h.1.1.1 [
      | inl s ↦ leading_item (IsItemOf message_codec) bytes s.0 (unread_messages h.1.1.0.messages)
          (map_ok payload_view_model g) (map (map_ok payload_view_model) given) s.1 s.2
          (drained_views_are_all h.1.1.0 given later)
      | inr f ↦ rw (f.1, nothing_more h.1.1.0 given later f.4)
          (error_is_only_item (IsItemOf message_codec) bytes f.0 f.2 f.3)
    ]
