-- Messages of sock_diag(7): requests, and replies about IPv4, IPv6 and UNIX sockets. Only replies
-- are parsed.
use Rattle.std.specs.Prelude.{◌≡◌, ℕ, ◌⊎◌, Ok, Err}
use Rattle.netlink_core.specs.Codec.{Codec, record_codec}
use Rattle.netlink_core.specs.NetlinkMessage.{netlink_codec}
use Rattle.netlink_core.specs.Response.{response_codec}
use Rattle.sock_diag_records.specs.declared.constants.TheConstants.{SOCK_DIAG_BY_FAMILY}
use Rattle.sock_diag_records.specs.InetRequest.{inet_request as inet_request_layout}
use Rattle.sock_diag_records.specs.UnixRequest.{unix_request as unix_request_layout}
use Rattle.sock_diag_replies.specs.InetResponseSpec.{inet_response_spec}
use Rattle.sock_diag_records.specs.ResponseKind.{MessageKind, inet_request, inet_response}
use Rattle.sock_diag_records.specs.ResponseKind.{unix_request, unix_response, response_kind}
use Rattle.sock_diag_replies.specs.UnixResponseSpec.{unix_response_spec}

-- the codec of the request or reply of each kind: `inet_diag_req_v2`, `inet_diag_msg` with
-- attributes after it, `unix_diag_req`, and `unix_diag_msg` with attributes after it
abbrev pub codec_of_message_kind : MessageKind → Codec (Unit {0})
codec_of_message_kind inet_request = record_codec inet_request_layout
codec_of_message_kind inet_response = response_codec inet_response_spec
codec_of_message_kind unix_request = record_codec unix_request_layout
codec_of_message_kind unix_response = response_codec unix_response_spec

-- a message: its kind, and the request or reply of this kind
pub data Message : Type 0 where
  message_of : (kind : MessageKind) → (codec_of_message_kind kind).Value → Message

-- `apply_by_kind f m`: the function `f`, applied to the kind of the message `m` and to its request
-- or reply
abbrev pub apply_by_kind {ℓ} : {T : Type ℓ}
    → ((k : MessageKind) → (codec_of_message_kind k).Value → T) → Message → T
apply_by_kind f (message_of kind v) = f kind v

-- the kind of a message
abbrev pub kind_of : Message → MessageKind
kind_of m = apply_by_kind (λ kind v. kind) m

-- The codec of messages: `m` is a message, `b` and `c` are byte strings, and `e` is an error. The
-- parameter `t` is the 16-bit message type in the netlink header. `response_kind b t`: the kind of
-- reply that `b` is under the type `t`, by its first byte, or an error. The codecs of the four
-- kinds have no parameter, so theirs is `tt`.
abbrev pub message_codec : Codec ℕ
message_codec = record {
  Value = Message;
  -- each number of the request or reply fits its field
  is_in_range = apply_by_kind (λ k v. (codec_of_message_kind k).is_in_range v);
  -- the bytes dispatch to this kind of reply under the type, and parse as this value
  parses = λ b t m. apply_by_kind
      (λ k v. (response_kind b t ≡ Ok k) × (codec_of_message_kind k).parses b tt v) m;
  -- the bytes dispatch to no reply, or the reply of their kind is rejected
  rejects = λ b t e. (response_kind b t ≡ Err e)
      ⊎ ((kind : MessageKind) × (response_kind b t ≡ Ok kind)
      × (codec_of_message_kind kind).rejects b tt e);
  -- no message: a parsed one is a reply in a box, which is allocated
  needs_no_memory = λ m. ⊥;
  -- both dispatch to the same kind of reply, and are equivalent as such replies
  equivalent = λ t b c. (kind : MessageKind) × (response_kind b t ≡ Ok kind)
      × (response_kind c t ≡ Ok kind) × (codec_of_message_kind kind).equivalent tt b c;
  -- a reply in normal form, under the type SOCK_DIAG_BY_FAMILY
  is_normal = λ t m. apply_by_kind (λ k v. (t ≡ SOCK_DIAG_BY_FAMILY)
      × ((k ≡ inet_response) ⊎ (k ≡ unix_response))
      × (codec_of_message_kind k).is_normal tt v) m;
  -- the bytes of the request or reply, without a netlink header
  serialized = apply_by_kind (λ k v. (codec_of_message_kind k).serialized v);
  -- the lengths of the reply fit their fields; the lengths of a request always do
  is_writable = apply_by_kind (λ k v. (codec_of_message_kind k).is_writable v);
}

-- the codec of netlink messages: a netlink header, and a message of sock_diag(7) or a control
-- message, by the header's type
abbrev pub netlink_message_codec : Codec (Unit {0})
netlink_message_codec = netlink_codec message_codec
