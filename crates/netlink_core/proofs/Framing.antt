-- Bytes begin with one message, or have one error.
use Rattle.std.proofs.Common.{◌≡◌, ℕ, zero, suc, ◌-◌, ◌⊎◌, inl, inr, List, take, drop, refl, arith}
use Rattle.netlink_core.specs.declared.error.DecodeError.{DecodeError}
use Rattle.netlink_core.specs.declared.error.DecodeError.TheVariants.{Memory}
use Rattle.netlink_core.specs.declared.header.NetlinkHeader.{NetlinkHeader}
use Rattle.netlink_core.specs.Bytes.{IsBytes}
use Rattle.netlink_core.specs.Header.{HasHeader, IsMessageError, message_payload}
use Rattle.netlink_core.specs.declared.message.NetlinkPayload.TheVariants.{Done, Error, Noop}
use Rattle.netlink_core.specs.declared.message.NetlinkPayload.TheVariants.{Overrun, InnerMessage}
use Rattle.netlink_core.specs.NetlinkMessage.{Payload, NetlinkMessageModel, IsInnerMessageType}
use Rattle.netlink_core.specs.NetlinkMessage.{ParsesAsPayload, netlink_codec}
use Rattle.netlink_core.specs.Codec.{Codec}
use Rattle.netlink_core.proofs.TableLaws.{AreBytes-drop}
use Rattle.netlink_core.proofs.Headers.{AreBytes-take, header_or_error, header_length, one_header}

-- ---- the payload

-- the payload of a message in bytes is bytes
pub payload_in_range : (n : ℕ) (b : List ℕ) → IsBytes b → IsBytes (take (n - 16) (drop 16 b))
payload_in_range n b tb = AreBytes-take (n - 16) (drop 16 b) (AreBytes-drop 16 b tb)

-- an error of the inner message is an error of the whole message
pub inner_error_is_outer_error : (C : Codec ℕ) (bytes : List ℕ) (h : NetlinkHeader)
    (e : DecodeError)
    → HasHeader bytes h
    → IsInnerMessageType h.message_type
    × C.rejects (message_payload bytes h) h.message_type e
    → (netlink_codec C).rejects bytes tt e
inner_error_is_outer_error C bytes h e head error = inr (h, head, error.0, error.1)

-- ---- one message or one error

-- bytes that begin with a header have no framing error
no_error_at_header : (b : List ℕ) (h : NetlinkHeader) (e : DecodeError) → HasHeader b h
    → IsMessageError b e → ⊥
no_error_at_header b h e head k =
    grind (arith, header_length b h head)

-- bytes have at most one framing error
pub one_message_framing_error : (b : List ℕ) (e f : DecodeError) → IsMessageError b e
    → IsMessageError b f
    → e ≡ f
one_message_framing_error b e f h k = grind arith

-- Bytes have a message or an error, not both, if payloads of inner messages have a value or an
-- error, not both.
module _ (C : Codec ℕ) where
  -- a payload parses under any type, or the inner message is rejected
  payload_or_error : (x : List ℕ) (t : ℕ)
      → ((m : C.Value) × C.parses x t m) ⊎ ((e : DecodeError) × C.rejects x t e)
      → ((p : Payload C.Value) × ParsesAsPayload C.parses x t p)
      ⊎ ((e : DecodeError) × (IsInnerMessageType t × C.rejects x t e))
  payload_or_error x (suc zero) law = inl (Noop, refl)
  payload_or_error x (suc (suc zero)) law = inl (Error x, (refl, refl))
  payload_or_error x (suc (suc (suc zero))) law = inl (Done x, (refl, refl))
  payload_or_error x (suc (suc (suc (suc zero)))) law = inl (Overrun x, (refl, refl))
  payload_or_error x t (inl m) = inl (InnerMessage m.0, (grind arith, m.1))
  payload_or_error x t (inr f) = inr (f.0, (grind arith, f.1))

  -- bytes begin with a message or have an error
  pub message_or_error : (b : List ℕ) → IsBytes b
      → ((x : List ℕ) (t : ℕ) → IsBytes x → ((m : C.Value) × C.parses x t m)
      ⊎ ((e : DecodeError) × C.rejects x t e))
      → ((v : NetlinkMessageModel C.Value) × (netlink_codec C).parses b tt v)
      ⊎ ((e : DecodeError) × (netlink_codec C).rejects b tt e)
  message_or_error b tb law = elim (header_or_error b tb) [
    | inr error ↦ inr (error.0, inl error.1)
    | inl (h, head) ↦ elim (payload_or_error _ _ (law _ h.message_type
        (payload_in_range h.length b tb))) [
          | inl p ↦ inl (record { header = h; payload = p.0 }, (head, p.1))
          | inr error ↦ inr (error.0, inner_error_is_outer_error C b h error.0 head error.1)
        ]
  ]

  -- bytes do not both begin with a message and have an error
  pub message_or_error_apart : (b : List ℕ) (v : NetlinkMessageModel C.Value) (e : DecodeError)
      → ((x : List ℕ) (t : ℕ) (m : C.Value) → C.parses x t m → C.rejects x t e → ⊥)
      → (netlink_codec C).parses b tt v → (netlink_codec C).rejects b tt e → ⊥
  message_or_error_apart b v e law r k =
      grind (arith, no_error_at_header b v.header, one_header b v.header, law)

-- bytes have at most one error
pub one_message_error : (C : Codec ℕ) (b : List ℕ) (e f : DecodeError)
    → ((x : List ℕ) (t : ℕ) → C.rejects x t e → C.rejects x t f → e ≡ f)
    → (netlink_codec C).rejects b tt e → (netlink_codec C).rejects b tt f → e ≡ f
one_message_error C b e f law h k =
    grind (arith, one_message_framing_error b, no_error_at_header b, one_header b, law)

-- bytes are never rejected with `Memory`
pub message_error_is_not_memory : (C : Codec ℕ) (b : List ℕ)
    → ((x : List ℕ) (t : ℕ) → C.rejects x t Memory → ⊥) → (netlink_codec C).rejects b tt Memory → ⊥
message_error_is_not_memory C b law h =
    grind (arith, law)
