-- The iterator over the messages of a datagram, each as its payload: its state and its steps.
use Rattle.std.specs.Prelude.{◌≡◌, ◌≢◌, ◌⊎◌, ℕ, ◌+◌, ◌/◌, List, [], length, Option, Result, Err}
use Rattle.std.specs.Prelude.{MatchOption}
use Rattle.netlink_core.specs.declared.error.DecodeError.{DecodeError}
use Rattle.netlink_core.specs.Datagram.{StartsWithMessage}
use Rattle.netlink_core.specs.DatagramWalk.{unread_messages}
use Rattle.netlink_core.specs.Header.{IsMessageError}
use Rattle.netlink_core.specs.Items.{IsItemOf}
use Rattle.netlink_packet_sock_diag.specs.declared.dump.views.DumpViews.{DumpViews}
use Rattle.netlink_packet_sock_diag.specs.PayloadViewModel.{PayloadView, payload_view_model}
use Rattle.netlink_packet_sock_diag.specs.Message.{message_codec}
use Rattle.netlink_core.specs.Errors.{map_ok}

-- the bytes that the iterator has not read yet
abbrev pub unread_views : DumpViews → List ℕ
unread_views views = unread_messages views.messages

-- the greatest number of items that the iterator can still yield: one for each 16 bytes, the length
-- of a netlink header, rounded up
abbrev pub max_views_left : DumpViews → ℕ
max_views_left views = (length (unread_views views) + 15) / 16

-- `YieldsPayloadView old given new`: one call of `next` on the iterator `old` returns `given` and
-- leaves `new`. It yields the payload of the first message, or the error of its payload, and the
-- bytes after the padding of the message are left. If the bytes do not start with a message, it
-- yields the error, and no bytes are left. It returns `None` only if no bytes were left. `map_ok
-- payload_view_model item`: the model of a payload, or the error.
abbrev pub YieldsPayloadView : DumpViews → Option (Result PayloadView DecodeError) → DumpViews
    → Type 0
YieldsPayloadView old given new =
    let left = unread_views old in
    let later = unread_views new in
    MatchOption given ((left ≡ []) × (later ≡ []))
    (λ item. ((message : List ℕ) × StartsWithMessage left message later
    × IsItemOf message_codec message (map_ok payload_view_model item))
    ⊎ ((e : DecodeError) × (item ≡ Err e) × (left ≢ []) × IsMessageError left e × (later ≡ [])))
