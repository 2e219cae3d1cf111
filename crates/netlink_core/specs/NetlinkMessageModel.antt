-- The model of a message: what contracts see of it.
use Rattle.std.specs.Prelude.{ℕ, List, Vec, vec_items}
use Rattle.std.specs.Borrow.{Bor}
use Rattle.std.specs.declared.alloc.Global.{Global}
use Rattle.netlink_core.specs.declared.message.NetlinkPayload.{NetlinkPayload}
use Rattle.netlink_core.specs.declared.message.NetlinkPayload.TheVariants.{Done, Error, Noop}
use Rattle.netlink_core.specs.declared.message.NetlinkPayload.TheVariants.{Overrun, InnerMessage}
use Rattle.netlink_core.specs.declared.message.NetlinkMessage.{NetlinkMessage}
use Rattle.netlink_core.specs.NetlinkMessage.{Payload, NetlinkMessageModel}

-- `payload_model bytes model payload`: the model of the payload. `bytes` maps the raw bytes of a
-- control message, a `Vec<u8>` or a `&[u8]`, to a list. `model` maps an inner message to its model.
abbrev pub payload_model : {I B A : Type 0} → (B → List ℕ) → (I → A) → NetlinkPayload I B
    → Payload A
payload_model bytes model (Done raw) = Done (bytes raw)
payload_model bytes model (Error raw) = Error (bytes raw)
payload_model bytes model Noop = Noop
payload_model bytes model (Overrun raw) = Overrun (bytes raw)
payload_model bytes model (InnerMessage message) = InnerMessage (model message)

-- `owned_payload_model model payload`: the model of a payload whose raw bytes are a `Vec<u8>`;
-- `model` maps an inner message to its model
abbrev pub owned_payload_model : {I A : Type 0} → (I → A) → NetlinkPayload I (Vec ℕ Global)
    → Payload A
owned_payload_model model payload = payload_model vec_items model payload

-- `borrowed_payload_model payload`: the model of a payload whose raw bytes are a `&[u8]`; an inner
-- message is unchanged
abbrev pub borrowed_payload_model : {I : Type 0} → NetlinkPayload I (Bor (List ℕ)) → Payload I
borrowed_payload_model payload =
    payload_model (λ (raw : Bor (List ℕ)). raw.now) (λ message. message) payload

-- `netlink_message_model model m`: the header of the message, and the model of its payload; `model`
-- maps an inner message to its model
abbrev pub netlink_message_model : {I A : Type 0} → (I → A) → NetlinkMessage I
    → NetlinkMessageModel A
netlink_message_model model m = record {
  header = m.header;
  payload = owned_payload_model model m.payload;
}
