-- The dump over an answer of the kernel for tests.
use Rattle.std.proofs.Common.{◌≡◌, ◌↔◌, ℕ, ◌+◌, ◌%◌, ◌^◌, ◌<◌, ◌≤◌, inl, inr, List, [], ◌∷◌, ◌++◌}
use Rattle.std.proofs.Common.{length, refl, sym, ap, subst, ◌∙◌, append_assoc, arith}
use Rattle.std.specs.Prelude.{map, None, Ok}
use Rattle.std.specs.List.{AllByRecursion, flat_map}
use Rattle.std.proofs.lemmas.List.{append-nil}
use Rattle.byteorder.specs.Endian.{little_number}
use Rattle.byteorder.specs.Numbers.{little_number-reads_back}
use Rattle.netlink_core.specs.Attribute.{padding_length}
use Rattle.netlink_core.specs.declared.header.NetlinkHeader.{NetlinkHeader}
use Rattle.netlink_core.specs.Table.{FitFields}
use Rattle.netlink_core.specs.Header.{header_fields, header_values}
use Rattle.netlink_core.specs.Datagram.{SplitsIntoMessages, StartsWithMessage}
use Rattle.netlink_core.specs.NetlinkMessage.{NetlinkMessageModel, Payload, finalized_header}
use Rattle.netlink_core.specs.NetlinkMessage.{HoldsOfInnerMessage}
use Rattle.netlink_core.specs.declared.message.NetlinkPayload.TheVariants.{Done, InnerMessage}
use Rattle.netlink_core.specs.NetlinkMessage.{payload_bytes, payload_type, netlink_codec}
use Rattle.netlink_core.proofs.Datagrams.{IsOfOwnLength}
use Rattle.netlink_core.specs.Items.{Item, IsItemOf, AreItemsOf}
use Rattle.netlink_core.specs.Response.{response_bytes, response_codec, ReplyValue}
use Rattle.netlink_packet_sock_diag.specs.Dump.{dump_end_at, inner_message_list}
use Rattle.netlink_packet_sock_diag.specs.Message.{Message, message_of, message_codec}
use Rattle.sock_diag_records.specs.ResponseKind.{unix_response}
use Rattle.sock_diag_replies.specs.UnixResponseSpec.{unix_response_spec}
use Rattle.sock_diag_examples.specs.TestKernel.{IsWritableReply, IsAnswer, IsCompleteDump}
use Rattle.sock_diag_examples.specs.TestKernel.{done_message_bytes, numbered_message_bytes}
use Rattle.sock_diag_examples.specs.TestKernel.{reply_message_bytes}

-- the message of a reply
abbrev reply_as_message : ReplyValue unix_response_spec → Message
reply_as_message reply = message_of unix_response reply

-- a message whose length is a multiple of four has no padding
no_padding : (message : List ℕ) → length message % 4 ≡ 0 → 0 ≡ padding_length (length message)
no_padding message even = rw even refl

-- ---- concatenated messages

-- a complete message without padding, and its item
pub record IsMessageWithItem (message : List ℕ) (item : Item Message) : Type 0 where
  pub whole : IsOfOwnLength message
  pub even : length message % 4 ≡ 0
  pub is : IsItemOf message_codec message item

-- it is split into itself
one_message_alone : (message : List ℕ) → IsOfOwnLength message → length message % 4 ≡ 0
    → SplitsIntoMessages message (message ∷ []) None
one_message_alone message whole even =
    let starts : StartsWithMessage message message [] =
    record {
      padding = [];
      parts = sym (append-nil message);
      whole = whole;
      filled = inl (no_padding message even);
    } in
    ([], starts, refl)

-- its bytes have one item
pub one_item_of_message : (message : List ℕ) (item : Item Message)
    → IsMessageWithItem message item → AreItemsOf (IsItemOf message_codec) message (item ∷ [])
one_item_of_message message item c =
    (message ∷ [], None, item ∷ [], one_message_alone message c.whole c.even, (c.is, tt), refl)

-- the items of concatenated messages are the concatenated items
pub items_of_all : ((front back : List ℕ) (messages : List (List ℕ))
    (xs ys : List (Item Message)) → SplitsIntoMessages front messages None × (length front % 4 ≡ 0)
    → AreItemsOf (IsItemOf message_codec) front xs → AreItemsOf (IsItemOf message_codec) back ys
    → AreItemsOf (IsItemOf message_codec) (front ++ back) (xs ++ ys))
    → {A : Type 0} (bytes : A → List ℕ) (item : A → Item Message)
    (last : List ℕ) (ends : List (Item Message))
    → (xs : List A) → AllByRecursion (λ x. IsMessageWithItem (bytes x) (item x)) xs
    → AreItemsOf (IsItemOf message_codec) last ends
    → AreItemsOf (IsItemOf message_codec) (flat_map bytes xs ++ last) (map item xs ++ ends)
items_of_all law bytes item last ends [] all are = are
items_of_all law bytes item last ends (x ∷ xs) all are =
    rw append_assoc (law (bytes x) (flat_map bytes xs ++ last) (bytes x ∷ []) (item x ∷ [])
    (map item xs ++ ends)
    (one_message_alone (bytes x) all.0.whole all.0.even, all.0.even)
    (one_item_of_message (bytes x) (item x) all.0)
    (items_of_all law bytes item last ends xs all.1 are))

-- ---- the messages of an answer

abbrev numbered_header : ℕ → Payload Message → NetlinkHeader
numbered_header n payload = record {
  length = 16 + length (payload_bytes message_codec.serialized payload);
  message_type = payload_type (λ _. 20) payload;
  flags = 2;
  sequence_number = n;
  port_number = 0;
}

abbrev numbered_message : ℕ → Payload Message → NetlinkMessageModel Message
numbered_message n payload = record { header = numbered_header n payload; payload = payload }

header_in_range : (n : ℕ) (payload : Payload Message) → n < 2 ^ 32
    → 16 + length (payload_bytes message_codec.serialized payload) ≤ 4294967295
    → payload_type (λ _. 20) payload < 2 ^ 16
    → FitFields header_fields (header_values (numbered_header n payload))
header_in_range n carried small short kind =
    (omega arith, (kind, (omega arith, (small, (omega arith, tt)))))

-- the length field is the length of the message
message_has_own_length : (n : ℕ) (payload : Payload Message)
    → 16 + length (payload_bytes message_codec.serialized payload) ≤ 4294967295
    → IsOfOwnLength (numbered_message_bytes n payload)
unfolding numbered_message_bytes
message_has_own_length n payload short =
    let size = 16 + length (payload_bytes message_codec.serialized payload) in
    let word : little_number 4 (numbered_message_bytes n payload)
    ≡ 16 + length (payload_bytes message_codec.serialized payload) =
    little_number-reads_back 4 (16 + length (payload_bytes message_codec.serialized payload)) []
    (omega arith) in
    (omega arith, word ∙ omega arith)

-- the length of a message is a multiple of four if the length of its payload is
even_message : (n : ℕ) (payload : Payload Message)
    → length (payload_bytes message_codec.serialized payload) % 4 ≡ 0
    → length (numbered_message_bytes n payload) % 4 ≡ 0
unfolding numbered_message_bytes
even_message n carried even = omega arith

module _ (round_trips : (v : NetlinkMessageModel Message)
    → (netlink_codec message_codec).is_in_range v
    → (netlink_codec message_codec).is_writable v
    → v.header ≡ finalized_header message_codec.serialized (λ _. 20) v
    → ((netlink_codec message_codec).parses ((netlink_codec message_codec).serialized v) tt v
    ↔ HoldsOfInnerMessage (message_codec.is_normal 20) v.payload)) where
  item_of_payload_message : (n : ℕ) (payload : Payload Message)
      → (netlink_codec message_codec).is_in_range (numbered_message n payload)
      → (netlink_codec message_codec).is_writable (numbered_message n payload)
      → HoldsOfInnerMessage (message_codec.is_normal 20) payload
      → length (payload_bytes message_codec.serialized payload) % 4 ≡ 0
      → IsMessageWithItem (numbered_message_bytes n payload) (Ok payload)
  unfolding numbered_message_bytes
  item_of_payload_message n payload in_range fits normal even = record {
    whole = message_has_own_length n payload fits.1;
    even = even_message n payload even;
    is = (
      numbered_header n payload,
      (round_trips (numbered_message n payload) in_range fits refl).1
          normal,
    );
  }

  item_of_reply_message : ((v : ReplyValue unix_response_spec)
      → (response_codec unix_response_spec).is_in_range v
      → length (response_bytes unix_response_spec v) % 4 ≡ 0)
      → (n : ℕ) → n < 2 ^ 32 → (r : ReplyValue unix_response_spec) → IsWritableReply r
      → IsMessageWithItem (reply_message_bytes n r) (Ok (InnerMessage (reply_as_message r)))
  item_of_reply_message even n small r found =
      item_of_payload_message n (InnerMessage (reply_as_message r)) (
        header_in_range n (InnerMessage (reply_as_message r)) small found.fits_length_field
            (omega arith),
        found.is_in_range,
      ) (found.is_writable, found.fits_length_field) (refl, inr refl, found.is_normal)
      (even r found.is_in_range)

  items_of_reply_messages : ((v : ReplyValue unix_response_spec)
      → (response_codec unix_response_spec).is_in_range v
      → length (response_bytes unix_response_spec v) % 4 ≡ 0)
      → (n : ℕ) → n < 2 ^ 32 → (rs : List (ReplyValue unix_response_spec))
      → AllByRecursion IsWritableReply rs
      → AllByRecursion (λ r. IsMessageWithItem (reply_message_bytes n r)
      (Ok (InnerMessage (reply_as_message r)))) rs
  items_of_reply_messages even n small [] found = tt
  items_of_reply_messages even n small (r ∷ rs) found = (
    item_of_reply_message even n small r found.0,
    items_of_reply_messages even n small rs found.1,
  )

  item_of_done_message : (n : ℕ) → n < 2 ^ 32
      → IsMessageWithItem (done_message_bytes n) (Ok (Done (0 ∷ 0 ∷ 0 ∷ 0 ∷ [])))
  item_of_done_message n small = item_of_payload_message n (Done (0 ∷ 0 ∷ 0 ∷ 0 ∷ []))
      (header_in_range n (Done (0 ∷ 0 ∷ 0 ∷ 0 ∷ [])) small (omega arith) (omega arith), tt)
      (tt, omega arith) tt refl

-- ---- the dump

no_reply_ends_dump : (rs : List (ReplyValue unix_response_spec))
    → AllByRecursion (λ item. dump_end_at {A = Message} item ≡ None)
    (map (λ r. Ok (InnerMessage (reply_as_message r))) rs)
no_reply_ends_dump [] = tt
no_reply_ends_dump (r ∷ rs) = (refl, no_reply_ends_dump rs)

replies_are_inner_messages : (rs : List (ReplyValue unix_response_spec)) → map reply_as_message rs
    ≡ flat_map inner_message_list (map
    (λ (r : ReplyValue unix_response_spec). Ok (InnerMessage (reply_as_message r))) rs)
replies_are_inner_messages [] = refl
replies_are_inner_messages (r ∷ rs) =
    ap (λ (ms : List Message). reply_as_message r ∷ ms) (replies_are_inner_messages rs)

pub answer_is_complete_dump : ((v : NetlinkMessageModel Message)
    → (netlink_codec message_codec).is_in_range v
    → (netlink_codec message_codec).is_writable v
    → v.header ≡ finalized_header message_codec.serialized (λ _. 20) v
    → ((netlink_codec message_codec).parses ((netlink_codec message_codec).serialized v) tt v
    ↔ HoldsOfInnerMessage (message_codec.is_normal 20) v.payload))
    → ((v : ReplyValue unix_response_spec)
    → (response_codec unix_response_spec).is_in_range v
    → length (response_bytes unix_response_spec v) % 4
    ≡ 0)
    → ((front back : List ℕ) (messages : List (List ℕ))
    (xs ys : List (Item Message)) → SplitsIntoMessages front messages None × (length front % 4 ≡ 0)
    → AreItemsOf (IsItemOf message_codec) front xs → AreItemsOf (IsItemOf message_codec) back ys
    → AreItemsOf (IsItemOf message_codec) (front ++ back) (xs ++ ys))
    → (request : List ℕ) (replies : List (ReplyValue unix_response_spec)) (datagram : List ℕ)
    → IsAnswer request replies datagram → AllByRecursion IsWritableReply replies
    → IsCompleteDump datagram replies
answer_is_complete_dump round_trips even concatenation request replies datagram answer found =
    let n = answer.header.sequence_number in
    let small = answer.has_header.1.1.1.1.0 in
    let ends = one_item_of_message (done_message_bytes n) (Ok (Done (0 ∷ 0 ∷ 0 ∷ 0 ∷ [])))
    (item_of_done_message round_trips n small) in
    let items = map (λ (r : ReplyValue unix_response_spec). Ok (InnerMessage (reply_as_message r)))
    replies
    ++ (Ok (Done (0 ∷ 0 ∷ 0 ∷ 0 ∷ [])) ∷ []) in
    let all = items_of_all concatenation (reply_message_bytes n) (λ r.
    Ok (InnerMessage (reply_as_message r)))
    (done_message_bytes n) (Ok (Done (0 ∷ 0 ∷ 0 ∷ 0 ∷ [])) ∷ []) replies
    (items_of_reply_messages round_trips even n small replies found) ends in
    record {
      dump = (
        items ∷ [],
        (
          subst (λ (bytes : List ℕ). AreItemsOf (IsItemOf message_codec) bytes items)
              (sym answer.serialized) all,
          tt,
        ),
        rw append-nil (
          map (λ (r : ReplyValue unix_response_spec). Ok (InnerMessage (reply_as_message r)))
              replies,
          Ok (Done (0 ∷ 0 ∷ 0 ∷ 0 ∷ [])) ∷ [],
          refl,
          no_reply_ends_dump replies,
          replies_are_inner_messages replies,
          refl,
        ),
      );
    }
