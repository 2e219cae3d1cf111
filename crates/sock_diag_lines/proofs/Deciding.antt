-- It is decidable whether a reply or a message is writable.
use Rattle.std.proofs.Common.{◌⊎◌, inl, inr, ℕ, ◌+◌, ◌≤◌, List, [], ◌∷◌, length, map, arith, ◌≡◌}
use Rattle.std.proofs.Common.{Bool, true, false, Decides, refl}
use Rattle.std.specs.List.{AllByRecursion}
use Rattle.std.specs.Str.{bytes_eq}
use Rattle.std.proofs.lemmas.Slice.Eq.{bytes_eq-Decides}
use Rattle.netlink_core.specs.Attribute.{FitsLengthField}
use Rattle.netlink_core.specs.AttributeSet.{encode_attribute}
use Rattle.netlink_core.specs.Response.{ResponseSpec, ReplyValue, response_bytes, response_codec}
use Rattle.netlink_core.specs.NetlinkMessage.{Payload, NetlinkMessageModel, HoldsOfInnerMessage}
use Rattle.netlink_core.specs.NetlinkMessage.{payload_bytes, netlink_codec}
use Rattle.netlink_core.specs.declared.message.NetlinkPayload.TheVariants.{Done, Error, Noop}
use Rattle.netlink_core.specs.declared.message.NetlinkPayload.TheVariants.{Overrun, InnerMessage}
use Rattle.sock_diag_replies.specs.InetResponseSpec.{inet_response_spec}
use Rattle.sock_diag_replies.specs.UnixResponseSpec.{unix_response_spec}
use Rattle.netlink_packet_sock_diag.specs.Message.{Message, message_of, message_codec}
use Rattle.sock_diag_records.specs.ResponseKind.{inet_request, inet_response, unix_request}
use Rattle.sock_diag_records.specs.ResponseKind.{unix_response}

or_not : {P : Type 0} (b : Bool) → Decides b P → P ⊎ ¬ P
or_not true d = inl (d.0 refl)
or_not false d = inr (λ p. absurd (cc (d.1 p)))

at_most : (m n : ℕ) → (m ≤ n) ⊎ ¬ (m ≤ n)
at_most m n = grind arith

-- equality of byte strings is decidable
pub same_or_not : (x y : List ℕ) → (x ≡ y) ⊎ ¬ (x ≡ y)
same_or_not x y = or_not (bytes_eq x y) (bytes_eq-Decides x y)

pub both_or_not : {P Q : Type 0} → P ⊎ ¬ P → Q ⊎ ¬ Q → (P × Q) ⊎ ¬ (P × Q)
both_or_not (inl p) (inl q) = inl (p, q)
both_or_not (inl p) (inr fails) = inr (λ h. fails h.1)
both_or_not (inr fails) q = inr (λ h. fails h.0)

-- if a property of one element is decidable, so is the property of all elements
pub each_or_not : {X : Type 0} (P : X → Type 0) → ((x : X) → P x ⊎ ¬ P x) → (xs : List X)
    → AllByRecursion P xs ⊎ ¬ AllByRecursion P xs
each_or_not P decide [] = inl tt
each_or_not P decide (x ∷ later) = both_or_not (decide x) (each_or_not P decide later)

pub reply_fits_or_not : (R : ResponseSpec) (value : ReplyValue R)
    → (response_codec R).is_writable value
    ⊎ ¬ (response_codec R).is_writable value
reply_fits_or_not R value =
    both_or_not (each_or_not FitsLengthField (λ a. at_most (length a.value) 65531)
    (map (encode_attribute R.attribute_set) value.nlas))
    (at_most (length (response_bytes R value)) 4294967295)

pub message_fits_or_not : (value : Message) → message_codec.is_writable value
    ⊎ ¬ message_codec.is_writable value
message_fits_or_not (message_of inet_request request) = inl tt
message_fits_or_not (message_of inet_response reply) = reply_fits_or_not inet_response_spec reply
message_fits_or_not (message_of unix_request request) = inl tt
message_fits_or_not (message_of unix_response reply) = reply_fits_or_not unix_response_spec reply

inner_fits_or_not : (payload : Payload Message)
    → HoldsOfInnerMessage message_codec.is_writable payload
    ⊎ ¬ HoldsOfInnerMessage message_codec.is_writable payload
inner_fits_or_not (InnerMessage message) = message_fits_or_not message
inner_fits_or_not (Done given) = inl tt
inner_fits_or_not (Error given) = inl tt
inner_fits_or_not Noop = inl tt
inner_fits_or_not (Overrun given) = inl tt

pub netlink_message_fits_or_not : (value : NetlinkMessageModel Message)
    → (netlink_codec message_codec).is_writable value
    ⊎ ¬ (netlink_codec message_codec).is_writable value
netlink_message_fits_or_not value = both_or_not (inner_fits_or_not value.payload)
    (at_most (16 + length (payload_bytes message_codec.serialized value.payload)) 4294967295)
