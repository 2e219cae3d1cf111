-- The models of a borrowed payload, and of a borrowed message with its header: what contracts see
-- of them.
use Rattle.std.specs.Prelude.{ℕ, List}
use Rattle.std.specs.Borrow.{Bor}
use Rattle.netlink_core.specs.declared.message.NetlinkPayload.{NetlinkPayload}
use Rattle.netlink_core.specs.NetlinkMessage.{Payload, NetlinkMessageModel}
use Rattle.netlink_core.specs.NetlinkMessageModel.{payload_model}
use Rattle.netlink_packet_sock_diag.specs.declared.dump.views.MessageView.{MessageView}
use Rattle.netlink_packet_sock_diag.specs.declared.message.SockDiagView.{SockDiagView}
use Rattle.netlink_packet_sock_diag.specs.Message.{Message}
use Rattle.netlink_packet_sock_diag.specs.MessageViewModel.{message_view_model}

-- a borrowed payload: a borrowed inner message, or the borrowed bytes of a control message
abbrev pub PayloadView : Type 0
PayloadView = NetlinkPayload SockDiagView (Bor (List ℕ))

-- the payload, with the model of its inner message or with its bytes; the arguments of
-- `payload_model` map borrowed bytes to a list, and a borrowed inner message to its model
abbrev pub payload_view_model : PayloadView → Payload Message
payload_view_model p = payload_model (λ (b : Bor (List ℕ)). b.now) message_view_model p

-- `netlink_message_view_model v`: the header of the borrowed message `v`, and the model of its
-- payload
abbrev pub netlink_message_view_model : MessageView → NetlinkMessageModel Message
netlink_message_view_model v = record { header = v.header; payload = payload_view_model v.payload }
