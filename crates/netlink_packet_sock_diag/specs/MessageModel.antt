-- The model of a message: what contracts see of it.
use Rattle.netlink_packet_sock_diag.specs.declared.message.SockDiagMessage.{SockDiagMessage}
use Rattle.netlink_packet_sock_diag.specs.declared.message.SockDiagMessage.TheVariants as message
use Rattle.sock_diag_attributes.specs.InetModel as inet
use Rattle.sock_diag_attributes.specs.UnixModel as unix
use Rattle.sock_diag_replies.specs.ResponseModel.{response_model}
use Rattle.netlink_packet_sock_diag.specs.Message.{Message, message_of}
use Rattle.sock_diag_records.specs.ResponseKind.{inet_request, inet_response, unix_request}
use Rattle.sock_diag_records.specs.ResponseKind.{unix_response}

-- The kind of the message, and the model of its request or reply. A request and a header are their
-- own models. `response_model of_header of reply` is a reply with the models of its header and of
-- its attributes, and `reply.value` is the reply in the box.
abbrev pub message_model : SockDiagMessage → Message
message_model (message.InetRequest request) = message_of inet_request request
message_model (message.InetResponse reply) =
    message_of inet_response (response_model (λ h. h) inet.inet_nla_model reply.value)
message_model (message.UnixRequest request) = message_of unix_request request
message_model (message.UnixResponse reply) =
    message_of unix_response (response_model (λ h. h) unix.unix_nla_model reply.value)
