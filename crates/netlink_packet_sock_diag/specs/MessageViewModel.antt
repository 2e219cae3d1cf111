-- The model of a borrowed message: what contracts see of it.
use Rattle.netlink_packet_sock_diag.specs.declared.message.SockDiagView.{SockDiagView}
use Rattle.netlink_packet_sock_diag.specs.declared.message.SockDiagView.TheVariants as view
use Rattle.sock_diag_replies.specs.ViewModel.{view_model}
use Rattle.netlink_packet_sock_diag.specs.Message.{Message, message_of}
use Rattle.sock_diag_records.specs.ResponseKind.{inet_response, unix_response}

-- the kind of the message, and the model of the borrowed reply
abbrev pub message_view_model : SockDiagView → Message
message_view_model (view.InetResponse reply) = message_of inet_response (view_model reply)
message_view_model (view.UnixResponse reply) = message_of unix_response (view_model reply)
