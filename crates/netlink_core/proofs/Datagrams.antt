-- The message at the start of bytes, and consecutive messages.
use Rattle.std.proofs.Common.{◌≡◌, ℕ, ◌+◌, ◌%◌, ◌<◌, ◌≤◌, List, [], ◌∷◌, ◌++◌, length, take, drop}
use Rattle.std.proofs.Common.{sym, ap, ◌∙◌, append_assoc, arith}
use Rattle.std.specs.Prelude.{Option, None}
use Rattle.std.proofs.lemmas.List.{take-append-drop, drop-drop, length-take, length-append}
use Rattle.byteorder.specs.Endian.{little_number}
use Rattle.netlink_core.specs.declared.header.NetlinkHeader.{NetlinkHeader}
use Rattle.netlink_core.specs.declared.error.DecodeError.{DecodeError}
use Rattle.netlink_core.specs.Attribute.{padding_length}
use Rattle.netlink_core.specs.Header.{HasHeader, IsMessageError}
use Rattle.netlink_core.specs.Datagram.{StartsWithMessage, SplitsIntoMessages}
use Rattle.netlink_core.specs.laws.Prefix.{equal_parts}
use Rattle.byteorder.specs.Numbers.{little_from-append}
use Rattle.netlink_core.proofs.Padding.{padding_and_rest}
use Rattle.netlink_core.proofs.Splitting.{one_rest_after_padding}
use Rattle.netlink_core.proofs.Framing.{one_message_framing_error}
use Rattle.netlink_core.proofs.Headers.{header_length}

-- ---- one message

-- the message is as long as its length field, and has at least the 16 bytes of a header
abbrev pub IsOfOwnLength : List ℕ → Type 0
IsOfOwnLength message = (16 ≤ length message) × (little_number 4 message ≡ length message)

-- bytes that begin with a header begin with a message of the length in this header, followed by the
-- padding and `rest`, as far as there are bytes
pub starts_with_message : (bytes message rest : List ℕ) (h : NetlinkHeader) (end : ℕ)
    → HasHeader bytes h → message ≡ take h.length bytes
    → end ≡ h.length + padding_length h.length → rest ≡ drop end bytes
    → StartsWithMessage bytes message rest
starts_with_message bytes message rest h end head message-is end-is rest-is =
    let tail : List ℕ = drop h.length bytes in
    let len : length message ≡ h.length =
    rw message-is (omega (arith, length-take h.length bytes)) in
    let split : bytes ≡ message ++ tail = cc (take-append-drop h.length bytes) in
    let front = little_from-append 4 message tail (omega arith) in
    let n : ℕ = padding_length (length message) in
    let behind = padding_and_rest n tail rest (rw (drop-drop n h.length bytes, rest-is) (ap
    (λ (k : ℕ). drop k bytes) (omega arith))) in
    record {
      padding = take n tail;
      parts = cc;
      whole = (omega arith, cc (front, header_length bytes h head));
      filled = behind.1;
    }

-- the length field of bytes that begin with a message is the message's length
message_length_field : (bytes message rest : List ℕ) → StartsWithMessage bytes message rest
    → (little_number 4 bytes ≡ length message) × (16 ≤ length message)
    × (length message ≤ length bytes)
message_length_field bytes message rest s =
    grind (arith, little_from-append 4 message (s.padding ++ rest), length-append)

-- the bytes after a message and its padding are fewer
pub shorter-rest : (bytes message rest : List ℕ) → StartsWithMessage bytes message rest
    → length rest < length bytes
shorter-rest bytes message rest s =
    grind (arith, length-append)

-- bytes that begin with a message have no framing error
pub no_error_at_message : (bytes message rest : List ℕ) (e : DecodeError)
    → StartsWithMessage bytes message rest → IsMessageError bytes e → ⊥
no_error_at_message bytes message rest e s f =
    grind (arith, message_length_field bytes message rest s)

-- bytes begin with at most one message, and the bytes after its padding are determined
pub one_message : (bytes m n rest after : List ℕ) → StartsWithMessage bytes m rest
    → StartsWithMessage bytes n after → (m ≡ n) × (rest ≡ after)
one_message bytes m n rest after s t =
    let lens = sym (message_length_field bytes m rest s).0
    ∙ (message_length_field bytes n after t).0 in
    let parts = equal_parts m n (s.padding ++ rest) (t.padding ++ after) lens (sym s.parts
    ∙ t.parts) in (
      parts.0,
      one_rest_after_padding _ s.padding t.padding rest after s.filled
          (rw lens t.filled) parts.1,
    )

-- ---- consecutive messages

-- the first of several padded messages is also the first message if more bytes follow
pub starts_in_concatenation : (front back message rest : List ℕ)
    → StartsWithMessage front message rest → length front % 4 ≡ 0
    → StartsWithMessage (front ++ back) message (rest ++ back) × (length rest % 4 ≡ 0)
starts_in_concatenation front back message rest s even =
    grind (arith, length-append, append_assoc)

-- padded messages and then more bytes are split into these messages and what the other bytes are
-- split into
pub messages_of_concatenation : (front back : List ℕ) (xs ys : List (List ℕ))
    (end : Option DecodeError)
    → SplitsIntoMessages front xs None × (length front % 4 ≡ 0) → SplitsIntoMessages back ys end
    → SplitsIntoMessages (front ++ back) (xs ++ ys) end
messages_of_concatenation front back [] ys end h k = rw h.0 k
messages_of_concatenation front back (x ∷ xs) ys end h k =
    let rest = h.0.0 in
    let more = starts_in_concatenation front back x rest h.0.1 h.1 in
    (rest ++ back, more.0, messages_of_concatenation rest back xs ys end (h.0.2, more.1) k)

-- bytes that begin with a message are neither empty nor have a framing error
message_excludes_end : (bytes message rest : List ℕ) (end : Option DecodeError)
    → StartsWithMessage bytes message rest → SplitsIntoMessages bytes [] end → ⊥
message_excludes_end bytes message rest end s h =
    grind (arith, message_length_field bytes message rest s)

-- bytes are split into at most one list of messages, with at most one end
pub one_split_into_messages : (bytes : List ℕ) (xs ys : List (List ℕ)) (e f : Option DecodeError)
    → SplitsIntoMessages bytes xs e → SplitsIntoMessages bytes ys f → (xs ≡ ys) × (e ≡ f)
one_split_into_messages bytes [] [] e f h k =
    grind (arith, one_message_framing_error bytes)
one_split_into_messages bytes [] (y ∷ ys) e f h k =
    absurd (message_excludes_end bytes y k.0 e k.1 h)
one_split_into_messages bytes (x ∷ xs) [] e f h k =
    absurd (message_excludes_end bytes x h.0 f h.1 k)
one_split_into_messages bytes (x ∷ xs) (y ∷ ys) e f h k =
    grind (arith, one_message bytes x y h.0 k.0 h.1 k.1, one_split_into_messages h.0 xs ys e f h.2)
