-- Messages are equal if and only if their bytes are equivalent, and round-trip if and only
-- if they are in normal form.
use Rattle.std.proofs.lemmas.Grind.{common_steps}
use Rattle.std.proofs.Common.{◌≡◌, ◌↔◌, ◌⊎◌, ◌≤◌, ℕ, List, take, ap, arith}
use Rattle.std.proofs.lemmas.List.{append-nil}
use Rattle.netlink_core.specs.Bytes.{IsBytes}
use Rattle.netlink_core.specs.Table.{FitFields}
use Rattle.netlink_core.specs.Header.{header_fields, header_values}
use Rattle.netlink_core.specs.NetlinkMessage.{Payload, NetlinkMessageModel, IsInnerMessageType}
use Rattle.netlink_core.specs.NetlinkMessage.{ParsesAsPayload, payload_bytes, payload_type}
use Rattle.netlink_core.specs.NetlinkMessage.{HoldsOfInnerMessage, finalized_header, netlink_codec}
use Rattle.netlink_core.specs.Codec.{Codec}
use Rattle.netlink_core.proofs.Headers.{header_length, begins_with_header, header_type}
use Rattle.netlink_core.proofs.Headers.{equal_by_header_bytes, same_leading_header}
use Rattle.netlink_core.proofs.Framing.{payload_in_range}

module _ {A : Type 0} (parses : List ℕ → ℕ → A → Type 0) where
  -- payloads of the same type are equal if and only if their bytes are equivalent
  payloads_equal_iff_equivalent : (idle : ℕ → List ℕ → List ℕ → Type 0) (t : ℕ) (x y : List ℕ)
      → ((v w : A) → parses x t v → parses y t w → ((v ≡ w) ↔ idle t x y))
      → (p q : Payload A) → ParsesAsPayload parses x t p → ParsesAsPayload parses y t q
      → ((p ≡ q)
      ↔ ((t ≡ 1) ⊎ (((2 ≤ t) × (t ≤ 4) × (x ≡ y)) ⊎ (IsInnerMessageType t × idle t x y))))
  payloads_equal_iff_equivalent idle t x y law p q h k =
      grind (arith, law)

  -- payloads of the same type are equal if they serialize to the same bytes
  pub payloads_equal_by_bytes : (written : A → List ℕ) (fits : A → Type 0) (t : ℕ) (x y : List ℕ)
      → ((v w : A) → parses x t v → parses y t w → fits v → fits w → written v ≡ written w → v ≡ w)
      → (p q : Payload A) → ParsesAsPayload parses x t p → ParsesAsPayload parses y t q
      → HoldsOfInnerMessage fits p
      → HoldsOfInnerMessage fits q → payload_bytes written p ≡ payload_bytes written q → p ≡ q
  payloads_equal_by_bytes written fits t x y law p q h k f g e =
      grind (arith, law)

module _ (C : Codec ℕ) where
  -- messages are equal if they serialize to the same bytes
  pub messages_equal_by_bytes : ((x y : List ℕ) (t : ℕ) (v w : C.Value) → IsBytes x → IsBytes y
      → C.parses x t v → C.parses y t w → C.is_writable v → C.is_writable w
      → C.serialized v ≡ C.serialized w → v ≡ w)
      → (b c : List ℕ) (v w : NetlinkMessageModel C.Value) → IsBytes b → IsBytes c
      → (netlink_codec C).parses b tt v → (netlink_codec C).parses c tt w
      → HoldsOfInnerMessage C.is_writable v.payload
      → HoldsOfInnerMessage C.is_writable w.payload
      → (netlink_codec C).serialized v ≡ (netlink_codec C).serialized w → v ≡ w
  messages_equal_by_bytes law b c v w tb tc r s fv fw e =
      grind (
        arith,
        equal_by_header_bytes v.header w.header r.0.1 s.0.1 (ap (take 16) e),
        payloads_equal_by_bytes,
        payload_in_range v.header.length b tb,
        payload_in_range w.header.length c tc,
      )

  -- messages are equal if and only if their bytes are equivalent
  pub messages_equal_iff_equivalent : ((x y : List ℕ) (t : ℕ) (v w : C.Value) → IsBytes x
      → IsBytes y
      → C.parses x t v → C.parses y t w → ((v ≡ w) ↔ C.equivalent t x y))
      → (b c : List ℕ) (v w : NetlinkMessageModel C.Value) → IsBytes b → IsBytes c
      → (netlink_codec C).parses b tt v → (netlink_codec C).parses c tt w
      → ((v ≡ w) ↔ (netlink_codec C).equivalent tt b c)
  messages_equal_iff_equivalent law b c v w tb tc r s =
      grind (
        arith,
        payloads_equal_iff_equivalent,
        payload_in_range v.header.length b tb,
        payload_in_range w.header.length c tc,
        same_leading_header b c v.header w.header tb tc r.0 s.0,
        header_type b v.header r.0,
        header_length b v.header r.0,
        header_length c w.header s.0,
      )

  -- a payload round-trips if and only if it is in normal form
  payload_round_trips : (type_of : C.Value → ℕ) (t : ℕ) (p : Payload C.Value)
      → t ≡ payload_type type_of p → HoldsOfInnerMessage (λ m. C.parses (C.serialized m) t m
      ↔ C.is_normal t m) p
      → (ParsesAsPayload C.parses (payload_bytes C.serialized p) t p
      ↔ HoldsOfInnerMessage (λ m. IsInnerMessageType t × C.is_normal t m) p)
  payload_round_trips type_of t p e law = grind arith

  -- a finalized message round-trips if and only if it is in normal form
  pub message_round_trips : (type_of : C.Value → ℕ) (v : NetlinkMessageModel C.Value)
      → FitFields header_fields (header_values v.header)
      → v.header ≡ finalized_header C.serialized type_of v
      → HoldsOfInnerMessage (λ m. C.parses (C.serialized m) v.header.message_type m
      ↔ C.is_normal v.header.message_type m) v.payload
      → ((netlink_codec C).parses ((netlink_codec C).serialized v) tt v
      ↔ (netlink_codec C).is_normal tt v)
  message_round_trips type_of v in_range done law =
      grind (arith, common_steps, append-nil, begins_with_header, payload_round_trips)

-- what holds of all writable inner messages in range holds of the inner message of a payload, if
-- any
pub inner_message_law : {A : Type 0} (in_range fits law : A → Type 0)
    → ((m : A) → in_range m → fits m → law m)
    → (p : Payload A) → HoldsOfInnerMessage in_range p → HoldsOfInnerMessage fits p
    → HoldsOfInnerMessage law p
inner_message_law in_range fits law all p t f =
    grind (arith, all)
