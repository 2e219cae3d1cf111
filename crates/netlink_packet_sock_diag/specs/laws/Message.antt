-- The codec laws of messages.
use Rattle.std.proofs.Common.{◌≡◌, ◌≢◌, ◌↔◌, ◌∙◌, ℕ, ◌≤◌, ◌⊎◌, inl, inr, List, [], ◌∷◌, length}
use Rattle.std.proofs.Common.{slice_index, Result, Ok, Err, refl, sym, ap, arith, le-ltb}
use Rattle.std.specs.Prelude.{MatchResult}
use Rattle.std.proofs.lemmas.Bool.{eqb-true, ne_eqb}
use Rattle.std.proofs.lemmas.Bool.Decides.{nat_tests}
use Rattle.netlink_core.specs.Bytes.{IsBytes}
use Rattle.netlink_core.specs.Codec.{KeepsCodecLaws}
use Rattle.netlink_core.specs.Response.{response_bytes}
use Rattle.netlink_core.specs.declared.error.DecodeError.{DecodeError}
use Rattle.netlink_core.specs.declared.error.DecodeError.TheVariants.{Memory, UnknownMessageType}
use Rattle.netlink_core.proofs.LayoutLaws.{layout_codec_laws}
use Rattle.netlink_core.proofs.Responses.{reply_codec_laws}
use Rattle.sock_diag_records.specs.IpVersions.{IpVersions, versions_of_family}
use Rattle.sock_diag_records.specs.InetRequest.{inet_request as inet_request_layout}
use Rattle.sock_diag_records.specs.InetResponse.{inet_response_header}
use Rattle.sock_diag_records.specs.laws.InetRequest.{inet_request_sound}
use Rattle.sock_diag_records.specs.UnixRequest.{unix_request as unix_request_layout}
use Rattle.sock_diag_records.specs.laws.UnixRequest.{unix_request_sound}
use Rattle.sock_diag_replies.specs.InetResponseSpec.{inet_response_spec}
use Rattle.sock_diag_replies.specs.UnixResponseSpec.{unix_response_spec}
use Rattle.sock_diag_replies.specs.laws.InetResponseSpec.{inet_response_laws}
use Rattle.sock_diag_replies.specs.laws.UnixResponseSpec.{unix_response_laws}
use Rattle.netlink_packet_sock_diag.specs.Message.{codec_of_message_kind, Message, message_of}
use Rattle.netlink_packet_sock_diag.specs.Message.{kind_of, message_codec}
use Rattle.sock_diag_records.specs.ResponseKind.{MessageKind, inet_request, inet_response}
use Rattle.sock_diag_records.specs.ResponseKind.{unix_request, unix_response, response_kind}

-- the codec of each kind satisfies the codec laws
message_kind_laws : (kind : MessageKind) → KeepsCodecLaws (codec_of_message_kind kind)
message_kind_laws kind =
    grind (
      arith,
      layout_codec_laws inet_request_layout inet_request_sound,
      inet_request_sound,
      reply_codec_laws inet_response_spec inet_response_laws,
      inet_response_laws,
      layout_codec_laws unix_request_layout unix_request_sound,
      unix_request_sound,
      reply_codec_laws unix_response_spec unix_response_laws,
      unix_response_laws,
    )

-- ---- the kind of bytes

-- under the type 20, the first byte determines the kind
pub kind_by_first_byte : (b : List ℕ) (t first : ℕ) → 2 ≤ length b → t ≡ 20
    → slice_index b 0 ≡ first
    → response_kind b t ≡ response_kind (first ∷ 0 ∷ []) 20
kind_by_first_byte b t first long is e = rw (le-ltb (length b) 2 long, is, e) refl

pub other_type_is_rejected : (b : List ℕ) (t : ℕ) → 2 ≤ length b
    → t ≢ 20 → response_kind b t ≡ Err (UnknownMessageType t)
other_type_is_rejected b t long other = rw (le-ltb (length b) 2 long, ne_eqb t 20 other) refl

-- the type is 20 and the kind is a reply; or the error is not `Memory`
abbrev IsResponseKind : ℕ → Result MessageKind DecodeError → Type 0
IsResponseKind t found =
    MatchResult found (λ kind. (t ≡ 20) × ((kind ≡ inet_response) ⊎ (kind ≡ unix_response)))
    (λ e. e ≢ Memory)

response_kinds : (b : List ℕ) (t : ℕ) (found : Result MessageKind DecodeError)
    → response_kind b t ≡ found → IsResponseKind t found
response_kinds b t found h = rw (← h) (grind (arith, nat_tests, eqb-true))

-- a parsed message is a reply, under the type 20
pub read_reply : (b : List ℕ) (t : ℕ) (m : Message) → message_codec.parses b t m
    → (t ≡ 20) × ((kind_of m ≡ inet_response)
    ⊎ (kind_of m ≡ unix_response))
read_reply b t (message_of kind v) r = response_kinds b t (Ok kind) r.0

-- ---- one message or one error

-- bytes have a message or an error, by the result of `response_kind`
parsed_or_rejected_as : (b : List ℕ) (t : ℕ) (found : Result MessageKind DecodeError) → IsBytes b
    → response_kind b t ≡ found
    → ((m : Message) × message_codec.parses b t m)
    ⊎ ((e : DecodeError) × message_codec.rejects b t e)
parsed_or_rejected_as b t (Err e) tb h = inr (e, inl h)
parsed_or_rejected_as b t (Ok kind) tb h = elim ((message_kind_laws kind).is_total b tt tb) [
  | inl answer ↦ inl (message_of kind answer.0, (h, answer.1))
  | inr error ↦ inr (error.0, inr (kind, h, error.1))
]

not_parsed_and_rejected : (b : List ℕ) (t : ℕ) (m : Message) (e : DecodeError)
    → message_codec.parses b t m
    → message_codec.rejects b t e → ⊥
not_parsed_and_rejected b t (message_of kind v) e (found, r) (inl none) = cc
not_parsed_and_rejected b t (message_of kind v) e (found, r) (inr (other, as_other, refused)) =
    grind (arith, message_kind_laws kind)

one_error_of_message : (b : List ℕ) (t : ℕ) (e f : DecodeError) → message_codec.rejects b t e
    → message_codec.rejects b t f → e ≡ f
one_error_of_message b t e f (inl h) (inl k) = cc
one_error_of_message b t e f (inl h) (inr (kind, found, refused)) = cc
one_error_of_message b t e f (inr (kind, found, refused)) (inl k) = cc
one_error_of_message b t e f (inr (kind, found, refused)) (inr (other, as_other, also)) =
    grind (arith, message_kind_laws kind)

message_error_is_named : (b : List ℕ) (t : ℕ) → message_codec.rejects b t Memory → ⊥
message_error_is_named b t (inl none) = response_kinds b t (Err Memory) none refl
message_error_is_named b t (inr (kind, found, refused)) =
    (message_kind_laws kind).error_is_not_memory b tt refused

-- ---- equivalent bytes

-- two byte strings that parse as the same message are equivalent
equal_messages_are_equivalent : (b c : List ℕ) (t : ℕ) (m : Message) → IsBytes b → IsBytes c
    → message_codec.parses b t m → message_codec.parses c t m → message_codec.equivalent t b c
equal_messages_are_equivalent b c t (message_of kind v) tb tc r s =
    let law = (message_kind_laws kind).equal_iff_equivalent b c tt v v tb tc r.1 s.1 in
    (kind, r.0, s.0, law.0 refl)

-- a message that is parsed from bytes of a kind is of this kind
of_kind : (b : List ℕ) (t : ℕ) (kind : MessageKind) (m : Message) → response_kind b t ≡ Ok kind
    → message_codec.parses b t m
    → (v : (codec_of_message_kind kind).Value) × (m ≡ message_of kind v)
    × (codec_of_message_kind kind).parses b tt v
of_kind b t kind (message_of other v) found r =
    let same : other ≡ kind = cc (r.0) in rw (← same) (v, refl, r.1)

equal_iff_equivalent_messages : (b c : List ℕ) (t : ℕ) (m n : Message) → IsBytes b → IsBytes c
    → message_codec.parses b t m → message_codec.parses c t n → ((m ≡ n)
    ↔ message_codec.equivalent t b c)
equal_iff_equivalent_messages b c t m n tb tc r s = (
  λ e. equal_messages_are_equivalent b c t n tb tc (rw e at r) s,
  λ (kind, left, right, idle).
      let x = of_kind b t kind m left r in
      let y = of_kind c t kind n right s in
      let law = (message_kind_laws kind).equal_iff_equivalent b c tt x.0 y.0 tb tc x.2 y.2 in
      x.1 ∙ ap (message_of kind) (law.1 idle) ∙ sym y.1,
)

-- ---- parsed and serialized messages

parsed_message_is_normal : (b : List ℕ) (t : ℕ) (m : Message) → IsBytes b
    → message_codec.parses b t m
    → message_codec.is_in_range m × message_codec.is_normal t m
parsed_message_is_normal b t (message_of kind v) tb (found, r) =
    let reply = response_kinds b t (Ok kind) found in
    let parts = (message_kind_laws kind).parsed_is_normal b tt v tb r in
    (parts.0, (reply.0, reply.1, parts.1))

message_bytes_in_range : (m : Message) → message_codec.is_in_range m
    → IsBytes (message_codec.serialized m)
message_bytes_in_range (message_of kind v) in_range =
    (message_kind_laws kind).serialized_in_range v in_range

-- the family of an IPv4 or IPv6 reply in normal form determines its kind
kind_of_versions : (family : ℕ) (versions : IpVersions) → versions_of_family family ≡ Ok versions
    → response_kind (family ∷ 0 ∷ []) 20 ≡ Ok inet_response
kind_of_versions family versions h =
    grind (arith, nat_tests)

-- a message in normal form serializes to bytes of its kind
serialized_kind_is_kept : (t : ℕ) (m : Message) → message_codec.is_normal t m
    → response_kind (message_codec.serialized m) t ≡ Ok (kind_of m)
unfolding inet_response_header
serialized_kind_is_kept t (message_of inet_response v) (is, reply, normal) =
    grind (
      arith,
      kind_by_first_byte (response_bytes inet_response_spec v) t v.header.family,
      kind_of_versions v.header.family,
    )
serialized_kind_is_kept t (message_of unix_response v) (is, reply, normal) =
    grind (arith, kind_by_first_byte (response_bytes unix_response_spec v) t 1)
serialized_kind_is_kept t m h = grind arith

message_value_round_trips : (t : ℕ) (m : Message) → message_codec.is_in_range m
    → message_codec.is_normal t m
    → message_codec.is_writable m
    → message_codec.parses (message_codec.serialized m) t m
message_value_round_trips t (message_of kind v) in_range normal fits = (
  serialized_kind_is_kept t (message_of kind v) normal,
  (message_kind_laws kind).round_trips tt v in_range normal.2 fits,
)

pub message_laws : KeepsCodecLaws message_codec
message_laws = record {
  is_total = λ b t tb. parsed_or_rejected_as b t (response_kind b t) tb refl;
  is_exclusive = not_parsed_and_rejected;
  error_is_unique = one_error_of_message;
  error_is_not_memory = message_error_is_named;
  equal_iff_equivalent = equal_iff_equivalent_messages;
  parsed_is_normal = parsed_message_is_normal;
  serialized_in_range = message_bytes_in_range;
  round_trips = message_value_round_trips;
}

-- a message serializes to at least two bytes
pub length-serialized_message : (m : Message) → 2 ≤ length (message_codec.serialized m)
unfolding inet_request_layout inet_response_header
length-serialized_message (message_of inet_request v) = omega arith
length-serialized_message (message_of inet_response v) = omega arith
length-serialized_message (message_of unix_request v) = omega arith
length-serialized_message (message_of unix_response v) = omega arith
