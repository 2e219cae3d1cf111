-- `==` of messages is true if and only if their models are equal.
use Rattle.std.proofs.Common.{arith, ◌≡◌, ◌↔◌, Bool, IsTrue, ap}
use Rattle.netlink_core.specs.laws.Equality.{false_decides}
use Rattle.sock_diag_records.specs.contracts.inet.equality.InetRequestExact.TheImpl.Laws.{
  exact-law as exact_inet_request,
}
use Rattle.sock_diag_records.specs.contracts.unix.request.UnixRequestExact.TheImpl.Laws.{
  exact-law as exact_unix_request,
}
use Rattle.sock_diag_attributes.specs.contracts.inet.codec.NlaHasCodec.TheImpl.Laws.{
  eq_is_model-law as same_inet,
}
use Rattle.sock_diag_attributes.specs.contracts.unix.codec.NlaHasCodec.TheImpl.Laws.{
  eq_is_model-law as same_unix,
}
use Rattle.sock_diag_attributes.specs.InetModel as inet
use Rattle.sock_diag_attributes.specs.UnixModel as unix
use Rattle.sock_diag_records.specs.contracts.inet.equality.InetResponseHeaderExact.TheImpl.Laws.{
  exact-law as exact_inet,
}
use Rattle.sock_diag_records.specs.contracts.unix.response.UnixResponseHeaderExact.TheImpl.Laws.{
  exact-law as exact_unix,
}
use Rattle.netlink_packet_sock_diag.specs.declared.message.SockDiagMessage.{SockDiagMessage}
use Rattle.netlink_packet_sock_diag.specs.declared.message.SockDiagMessage.TheVariants as message
use Rattle.netlink_packet_sock_diag.specs.contracts.message.SockDiagMessagePartialEq.TheImpl.{
  ghosts,
}
use Rattle.netlink_packet_sock_diag.specs.Message.{codec_of_message_kind, Message, message_of}
use Rattle.netlink_packet_sock_diag.specs.Message.{kind_of}
use Rattle.sock_diag_records.specs.ResponseKind.{MessageKind, inet_request, inet_response}
use Rattle.sock_diag_records.specs.ResponseKind.{unix_request, unix_response}
use Rattle.netlink_packet_sock_diag.specs.MessageModel.{message_model}
use Rattle.netlink_packet_sock_diag.specs.declared.message.SockDiagView.{SockDiagView}
use Rattle.netlink_packet_sock_diag.specs.declared.message.SockDiagView.TheVariants as view
use Rattle.netlink_packet_sock_diag.specs.contracts.message.SockDiagViewPartialEq.TheImpl.{
  ghosts as views,
}
use Rattle.sock_diag_replies.specs.laws.EqualResponse.{responses_equal}
use Rattle.sock_diag_replies.specs.laws.InetResponseSpec.{inet_test_decides}
use Rattle.sock_diag_replies.specs.laws.UnixResponseSpec.{unix_test_decides}
use Rattle.sock_diag_replies.specs.ViewModel.{view_model}
use Rattle.netlink_packet_sock_diag.specs.MessageViewModel.{message_view_model}

-- the request or reply of a message of this kind; `other` if the message is of another kind
abbrev content_of_message_kind : (kind : MessageKind) → (codec_of_message_kind kind).Value → Message
    → (codec_of_message_kind kind).Value
content_of_message_kind inet_request other (message_of inet_request v) = v
content_of_message_kind inet_response other (message_of inet_response v) = v
content_of_message_kind unix_request other (message_of unix_request v) = v
content_of_message_kind unix_response other (message_of unix_response v) = v
content_of_message_kind _ other _ = other

-- equal messages of one kind have equal requests or replies
equal_contents : (kind : MessageKind) (v w : (codec_of_message_kind kind).Value)
    → message_of kind v ≡ message_of kind w → v ≡ w
equal_contents inet_request v w e = ap (content_of_message_kind inet_request v) e
equal_contents inet_response v w e = ap (content_of_message_kind inet_response v) e
equal_contents unix_request v w e = ap (content_of_message_kind unix_request v) e
equal_contents unix_response v w e = ap (content_of_message_kind unix_response v) e

-- a test that decides whether the requests or replies are equal decides whether the messages are
content_test_decides : (kind : MessageKind) (is : Bool) (v w : (codec_of_message_kind kind).Value)
    → (IsTrue is ↔ (v ≡ w)) → (IsTrue is ↔ (message_of kind v ≡ message_of kind w))
content_test_decides kind is v w same =
    grind (arith, equal_contents kind v w)

pub message_equal : (v w : SockDiagMessage) → IsTrue (ghosts.eq v w)
    ↔ (message_model v ≡ message_model w)
message_equal (message.InetRequest a) (message.InetRequest x) =
    content_test_decides inet_request _ _ _ (exact_inet_request.0 a x)
message_equal (message.InetResponse a) (message.InetResponse x) =
    content_test_decides inet_response _ _ _
    (responses_equal (λ h. h) inet.inet_nla_model exact_inet.0 same_inet a.value x.value)
message_equal (message.UnixRequest a) (message.UnixRequest x) =
    content_test_decides unix_request _ _ _ (exact_unix_request.0 a x)
message_equal (message.UnixResponse a) (message.UnixResponse x) =
    content_test_decides unix_response _ _ _
    (responses_equal (λ h. h) unix.unix_nla_model exact_unix.0 same_unix a.value x.value)
message_equal v w = false_decides (λ e. let kinds = ap kind_of e in cc)

-- `==` of borrowed messages is true if and only if their models are equal
pub view_equal : (v w : SockDiagView) → IsTrue (views.eq v w)
    ↔ (message_view_model v ≡ message_view_model w)
view_equal (view.InetResponse a) (view.InetResponse x) =
    content_test_decides inet_response _ _ _ (inet_test_decides (view_model a) (view_model x))
view_equal (view.UnixResponse a) (view.UnixResponse x) =
    content_test_decides unix_response _ _ _ (unix_test_decides (view_model a) (view_model x))
view_equal v w = false_decides (λ e. let kinds = ap kind_of e in cc)
