-- A netlink message: its header, and its payload by the header's type.
use Rattle.std.specs.Prelude.{◌≡◌, ℕ, ℤ, ◌+◌, ◌-◌, ◌≤◌, ◌<◌, ◌⊎◌, List, [], ◌++◌, length, take}
use Rattle.std.specs.Prelude.{drop, ⊤, nat_lt, if◌then◌else◌, Option, None, Some}
use Rattle.std.specs.Int.{cast_signed, w32}
use Rattle.byteorder.specs.Endian.{little_number}
use Rattle.netlink_core.specs.declared.header.NetlinkHeader.{NetlinkHeader}
use Rattle.netlink_core.specs.declared.message.NetlinkPayload.{NetlinkPayload}
use Rattle.netlink_core.specs.declared.message.NetlinkPayload.TheVariants.{Done, Error, Noop}
use Rattle.netlink_core.specs.declared.message.NetlinkPayload.TheVariants.{Overrun, InnerMessage}
use Rattle.netlink_core.specs.declared.message.TheConstants as constants
use Rattle.netlink_core.specs.Table.{FitFields}
use Rattle.netlink_core.specs.Header.{header_bytes, header_fields, header_values}
use Rattle.netlink_core.specs.Header.{HasHeader, IsMessageError, message_length_in}
use Rattle.netlink_core.specs.Header.{message_type_in, message_payload}
use Rattle.netlink_core.specs.Codec.{Codec}

-- `Payload A`: the payload of a message. An inner message is an `A`, and the raw bytes of a control
-- message are a list.
abbrev pub Payload : Type 0 → Type 0
Payload A = NetlinkPayload A (List ℕ)

-- a netlink message: its header and its payload; an inner message in the payload is an `A`
pub record NetlinkMessageModel (A : Type 0) : Type 0 where
  pub header : NetlinkHeader
  pub payload : Payload A

-- `IsInnerMessageType t`: a message of the type `t` has an inner message: `t` is 0, or above 4
-- (NLMSG_OVERRUN). The control messages have the types 1 to 4. The kernel's header reserves the
-- other types below NLMSG_MIN_TYPE (16) for control messages, but defines none of them: here they
-- count as types of inner messages.
abbrev pub IsInnerMessageType : ℕ → Type 0
IsInnerMessageType t = (t ≡ 0) ⊎ (constants.NLMSG_OVERRUN < t)

-- `ParsesAsPayload parses bytes t payload`: the bytes parse as this payload under the message type
-- `t`. `parses bytes t value` says that they parse as the inner message `value`. The raw bytes of
-- an NLMSG_ERROR, NLMSG_DONE or NLMSG_OVERRUN are all bytes. An NLMSG_NOOP accepts any bytes, and
-- drops them.
abbrev pub ParsesAsPayload : {A : Type 0} → (List ℕ → ℕ → A → Type 0) → List ℕ → ℕ → Payload A
    → Type 0
ParsesAsPayload parses bytes t Noop = t ≡ constants.NLMSG_NOOP
ParsesAsPayload parses bytes t (Error raw) = (t ≡ constants.NLMSG_ERROR) × (raw ≡ bytes)
ParsesAsPayload parses bytes t (Done raw) = (t ≡ constants.NLMSG_DONE) × (raw ≡ bytes)
ParsesAsPayload parses bytes t (Overrun raw) = (t ≡ constants.NLMSG_OVERRUN) × (raw ≡ bytes)
ParsesAsPayload parses bytes t (InnerMessage value) = IsInnerMessageType t × parses bytes t value

-- `AreEquivalentPayloads inner t b c`: `b` and `c`, two payloads of the message type `t`, are
-- equivalent. Any two payloads of NLMSG_NOOP are. Those of the other control messages (types 2 to
-- 4) are if their bytes are equal. Those of the other types are if `inner t b c`: their inner
-- messages are equivalent.
abbrev pub AreEquivalentPayloads : (ℕ → List ℕ → List ℕ → Type 0) → ℕ → List ℕ → List ℕ → Type 0
AreEquivalentPayloads inner t b c = (t ≡ constants.NLMSG_NOOP)
    ⊎ (((constants.NLMSG_NOOP < t) × (t ≤ constants.NLMSG_OVERRUN) × (b ≡ c))
    ⊎ (IsInnerMessageType t × inner t b c))

-- ---- serializing

-- `payload_bytes bytes payload`: the bytes that the payload serializes to; `bytes value` are those
-- of the inner message `value`
abbrev pub payload_bytes : {A : Type 0} → (A → List ℕ) → Payload A → List ℕ
payload_bytes bytes Noop = []
payload_bytes bytes (Error raw) = raw
payload_bytes bytes (Done raw) = raw
payload_bytes bytes (Overrun raw) = raw
payload_bytes bytes (InnerMessage value) = bytes value

-- `payload_type type_of payload`: the message type of the payload; `type_of value` is that of the
-- inner message `value`
abbrev pub payload_type : {A : Type 0} → (A → ℕ) → Payload A → ℕ
payload_type type_of Noop = constants.NLMSG_NOOP
payload_type type_of (Error raw) = constants.NLMSG_ERROR
payload_type type_of (Done raw) = constants.NLMSG_DONE
payload_type type_of (Overrun raw) = constants.NLMSG_OVERRUN
payload_type type_of (InnerMessage value) = type_of value

-- `HoldsOfInnerMessage predicate payload`: if the payload is an inner message, the predicate holds
-- of it; a control message has no inner message, so that nothing is required (`⊤`)
abbrev pub HoldsOfInnerMessage : {A : Type 0} → (A → Type 0) → Payload A → Type 0
HoldsOfInnerMessage predicate (InnerMessage value) = predicate value
HoldsOfInnerMessage predicate Noop = ⊤
HoldsOfInnerMessage predicate (Error raw) = ⊤
HoldsOfInnerMessage predicate (Done raw) = ⊤
HoldsOfInnerMessage predicate (Overrun raw) = ⊤

-- `leading_error_number bytes`: the signed 32-bit error number (0 or -errno), little-endian, at the
-- start of a payload; `None` if the payload has fewer than four bytes
abbrev pub leading_error_number : List ℕ → Option ℤ
leading_error_number bytes = if nat_lt (length bytes) 4 then None
    else Some (cast_signed w32 (little_number 4 bytes))

-- `error_number_of payload`: the error number at the start of the payload, if it is an NLMSG_ERROR
-- or NLMSG_DONE; `None` if it has fewer than four bytes, and for any other payload
abbrev pub error_number_of : {A : Type 0} → Payload A → Option ℤ
error_number_of (Error raw) = leading_error_number raw
error_number_of (Done raw) = leading_error_number raw
error_number_of Noop = None
error_number_of (Overrun raw) = None
error_number_of (InnerMessage value) = None

-- `finalized_header bytes type_of m`: the header of the message `m`, with the length and the type
-- that the message has. The length is 16, for the header, plus the length of the payload. The other
-- fields are unchanged. `bytes` and `type_of` return the bytes and the message type of an inner
-- message.
abbrev pub finalized_header : {A : Type 0} → (A → List ℕ) → (A → ℕ) → NetlinkMessageModel A
    → NetlinkHeader
finalized_header bytes type_of m = record m.header {
  length = 16 + length (payload_bytes bytes m.payload);
  message_type = payload_type type_of m.payload;
}

-- ---- the codec

-- `netlink_codec C`: the codec of netlink messages, given the codec `C` of inner messages, whose
-- parameter is the message type. It does not keep the codec law `round_trips`, since the header of
-- a value may have any length and any type: see `laws::finalized_message_round_trips`. `b` and `c`
-- are byte strings, and `p` is `tt`, since there is no parameter; `m` is a netlink message, and `e`
-- is an error.
abbrev pub netlink_codec : Codec ℕ → Codec (Unit {0})
netlink_codec C = record {
  Value = NetlinkMessageModel C.Value;
  -- the header's numbers fit their fields, and an inner message is in range
  is_in_range = λ m. FitFields header_fields (header_values m.header)
      × HoldsOfInnerMessage C.is_in_range m.payload;
  -- the bytes start with the header, and the payload up to the header's length parses by its type
  parses = λ b p m. HasHeader b m.header
      × ParsesAsPayload C.parses (message_payload b m.header) m.header.message_type m.payload;
  -- the bytes do not start with a message, or they start with an inner message that is rejected
  rejects = λ b p e. IsMessageError b e ⊎ ((h : NetlinkHeader) × HasHeader b h
      × IsInnerMessageType h.message_type
      × C.rejects (message_payload b h) h.message_type e);
  -- an NLMSG_NOOP, whose payload is dropped, is stored without an allocation
  needs_no_memory = λ m. m.payload ≡ Noop;
  -- equal headers, and payloads that are equivalent under their message type; `payload bytes` is
  -- the payload of the message at the start of the bytes, up to the header's length
  equivalent = λ p b c. let payload : List ℕ → List ℕ =
      λ bytes. take (message_length_in bytes - 16) (drop 16 bytes) in
      (take 16 b ≡ take 16 c)
      × AreEquivalentPayloads C.equivalent (message_type_in b) (payload b) (payload c);
  -- a control message is always in normal form; an inner message has to be in normal form under the
  -- header's type, and this type must not be that of a control message
  is_normal = λ p m. let t = m.header.message_type in
      HoldsOfInnerMessage (λ inner. IsInnerMessageType t × C.is_normal t inner) m.payload;
  -- the header unchanged, then the payload
  serialized = λ m. header_bytes m.header ++ payload_bytes C.serialized m.payload;
  -- an inner message is writable, and the total length fits the 32-bit length field
  is_writable = λ m. HoldsOfInnerMessage C.is_writable m.payload
      × (16 + length (payload_bytes C.serialized m.payload) ≤ 4294967295);
}
