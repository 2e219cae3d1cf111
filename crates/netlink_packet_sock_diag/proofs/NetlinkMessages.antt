-- Properties of netlink messages that carry messages of sock_diag(7).
use Rattle.std.proofs.Common.{◌≡◌, ◌↔◌, inr, inl, ℕ, Bool, List, [], ◌∷◌, ◌++◌, refl, arith}
use Rattle.std.specs.Prelude.{IsTrue, count_by}
use Rattle.netlink_core.specs.declared.error.DecodeError.TheVariants.{UnknownMessageType}
use Rattle.netlink_core.specs.declared.header.NetlinkHeader.{NetlinkHeader}
use Rattle.netlink_core.specs.Table.{FitFields}
use Rattle.netlink_core.specs.Header.{header_fields, header_values}
use Rattle.netlink_core.specs.NetlinkMessage.{Payload, IsInnerMessageType, HoldsOfInnerMessage}
use Rattle.netlink_core.specs.NetlinkMessage.{finalized_header}
use Rattle.netlink_core.specs.declared.message.NetlinkPayload.TheVariants.{InnerMessage}
use Rattle.netlink_core.specs.NetlinkMessage.{payload_type, netlink_codec}
use Rattle.netlink_core.proofs.Headers.{begins_with_header}
use Rattle.netlink_packet_sock_diag.specs.Message.{Message, message_codec}
use Rattle.sock_diag_records.specs.ResponseKind.{MessageKind, inet_request, inet_response}
use Rattle.sock_diag_records.specs.ResponseKind.{unix_request, unix_response}
use Rattle.netlink_packet_sock_diag.specs.laws.Message.{length-serialized_message}
use Rattle.netlink_packet_sock_diag.specs.laws.Message.{other_type_is_rejected}

-- a message has exactly one of the four kinds
pub one_of_four_kinds : (own : MessageKind) (tests : MessageKind → Bool)
    → ((kind : MessageKind) → IsTrue (tests kind) ↔ (own ≡ kind))
    → count_by tests (inet_request ∷ inet_response ∷ unix_request ∷ unix_response ∷ []) ≡ 1
one_of_four_kinds own tests tell =
    grind (arith, tell inet_request, tell inet_response, tell unix_request, tell unix_response)

-- the bytes of a message whose header is finalized under the type 21
abbrev pub finalized_destroy_bytes : NetlinkHeader → Message → List ℕ
finalized_destroy_bytes h m = (netlink_codec message_codec).serialized (record {
  header = finalized_header message_codec.serialized (λ _. 21)
      (record { header = h; payload = InnerMessage m });
  payload = InnerMessage m;
})

-- no message is parsed under the type 21, and so these bytes are rejected, whatever follows them
pub destroy_is_rejected : (h : NetlinkHeader) (m : Message) (rest bytes : List ℕ)
    → FitFields header_fields (header_values h)
    → (netlink_codec message_codec).is_writable (record { header = h; payload = InnerMessage m })
    → bytes ≡ finalized_destroy_bytes h m ++ rest
    → (netlink_codec message_codec).rejects bytes tt (UnknownMessageType 21)
destroy_is_rejected h m rest bytes in_range fits whole =
    let inside = message_codec.serialized m in
    let own = finalized_header message_codec.serialized
    (λ _. 21) (record { header = h; payload = InnerMessage m }) in
    let own-in_range : FitFields header_fields (header_values own) =
    (let short = fits.1 in omega arith, (omega arith, in_range.1.1)) in
    let stands = begins_with_header own inside rest own-in_range refl in
    let refused : message_codec.rejects inside 21 (UnknownMessageType 21) =
    inl (other_type_is_rejected inside 21 (length-serialized_message m)
    (λ is. omega (arith, is))) in
    rw whole (inr (own, stands.0, inr (omega arith), rw stands.1 refused))

-- the type of a finalized inner message is 20, which is a type of inner messages
pub normal_payload : (t : ℕ) (p : Payload Message) → t ≡ payload_type (λ _. 20) p
    → (HoldsOfInnerMessage (λ m. IsInnerMessageType t × message_codec.is_normal t m) p
    ↔ HoldsOfInnerMessage (message_codec.is_normal 20) p)
normal_payload t p e =
    grind arith
