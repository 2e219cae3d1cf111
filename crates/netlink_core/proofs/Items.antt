-- The items of a datagram, in order.
use Rattle.std.proofs.Common.{arith, ◌≡◌, ◌≢◌, ℕ, ◌+◌, ◌%◌, ◌⊎◌, inl, inr, List, [], ◌∷◌, ◌++◌}
use Rattle.std.proofs.Common.{refl, ap, append_assoc, length}
use Rattle.std.specs.Option.{option_to_list}
use Rattle.std.specs.Prelude.{option_map, Option, Some, None, Ok, Err}
use Rattle.std.specs.List.{AllZip}
use Rattle.std.proofs.lemmas.List.{append-nil}
use Rattle.netlink_core.specs.Bytes.{IsBytes}
use Rattle.netlink_core.specs.laws.Byte.{IsBytes-left, IsBytes-right}
use Rattle.netlink_core.specs.Attribute.{padding_length}
use Rattle.netlink_core.specs.declared.error.DecodeError.{DecodeError}
use Rattle.netlink_core.specs.Header.{IsMessageError}
use Rattle.netlink_core.specs.Datagram.{StartsWithMessage, SplitsIntoMessages}
use Rattle.netlink_core.specs.Codec.{Codec, KeepsCodecLaws, HasOneResult}
use Rattle.netlink_core.specs.NetlinkMessage.{NetlinkMessageModel, netlink_codec}
use Rattle.netlink_core.specs.Items.{Item, IsItemOf, AreItemsOf}
use Rattle.netlink_core.proofs.Headers.{header_or_error}
use Rattle.netlink_core.proofs.CodecLaws.{only_result, equal_values, equal_errors}
use Rattle.netlink_core.proofs.CodecLaws.{value_or_error}
use Rattle.netlink_core.proofs.Equivalence.{messages_equal_iff_equivalent}
use Rattle.netlink_core.proofs.Framing.{message_or_error, message_or_error_apart}
use Rattle.netlink_core.proofs.Framing.{one_message_error, message_error_is_not_memory}
use Rattle.netlink_core.proofs.Padding.{by_length, some_or_none}
use Rattle.netlink_core.proofs.Datagrams.{starts_with_message, shorter-rest}
use Rattle.netlink_core.proofs.Datagrams.{messages_of_concatenation}
use Rattle.netlink_core.proofs.Datagrams.{IsOfOwnLength, one_split_into_messages}

-- the bytes after a message and its padding are bytes
pub rest_in_range : (bytes message rest : List ℕ) → StartsWithMessage bytes message rest
    → IsBytes bytes → IsBytes rest
rest_in_range bytes message rest s in_range =
    IsBytes-right s.padding rest (IsBytes-right message _ (rw s.parts at in_range))

-- a message in bytes is bytes
message_in_range : (bytes message rest : List ℕ) → StartsWithMessage bytes message rest
    → IsBytes bytes → IsBytes message
message_in_range bytes message rest s in_range = IsBytes-left message _ (rw s.parts at in_range)

-- concatenations of lists that are related element by element are so too
pub zip_append : {A B : Type 0} (R : A → B → Type 0) (xs ys : List A) (vs ws : List B)
    → AllZip R xs vs → AllZip R ys ws → AllZip R (xs ++ ys) (vs ++ ws)
zip_append R (x ∷ xs) ys (v ∷ vs) ws h k = (h.0, zip_append R xs ys vs ws h.1 k)
zip_append R xs ys vs ws h k = grind arith

module _ {A : Type 0} (is : List ℕ → Item A → Type 0) where
  -- the items of a datagram are the item of its first message, and then the items of the remaining
  -- bytes
  pub leading_item : (bytes message rest : List ℕ) (item : Item A)
      (later : List (Item A)) → StartsWithMessage bytes message rest → is message item
      → AreItemsOf is rest later → AreItemsOf is bytes (item ∷ later)
  leading_item bytes message rest item later s one (messages, end, carried, cut, each, parts) = (
    message ∷ messages,
    end,
    item ∷ carried,
    (rest, s, cut),
    (one, each),
    cc,
  )

  pub no_items : AreItemsOf is [] []
  no_items = ([], None, [], refl, tt, refl)

  -- the only item of bytes that do not begin with a message is their error
  pub error_is_only_item : (bytes : List ℕ) (e : DecodeError) → bytes ≢ [] → IsMessageError bytes e
      → AreItemsOf is bytes (Err e ∷ [])
  error_is_only_item bytes e some f = ([], Some e, [], (some, f), tt, refl)

  -- the items of padded messages are the items of these messages only
  pub items_of_padded_messages : (bytes : List ℕ) (messages : List (List ℕ))
      (items : List (Item A)) → SplitsIntoMessages bytes messages None × (length bytes % 4 ≡ 0)
      → AreItemsOf is bytes items → AllZip is messages items
  items_of_padded_messages bytes messages items whole a =
      grind (arith, one_split_into_messages bytes a.0 messages a.1, append-nil a.2)

  -- the items of padded messages and more bytes are the items of these messages, and then the items
  -- of the other bytes
  pub items_of_concatenation : (front back : List ℕ) (messages : List (List ℕ))
      (xs ys : List (Item A)) → SplitsIntoMessages front messages None × (length front % 4 ≡ 0)
      → AreItemsOf is front xs → AreItemsOf is back ys → AreItemsOf is (front ++ back) (xs ++ ys)
  items_of_concatenation front back messages xs ys whole a b =
      grind (
        arith,
        messages_of_concatenation front back messages b.0 b.1 whole b.3,
        zip_append,
        items_of_padded_messages front messages xs whole a,
        append_assoc xs b.2 (option_to_list (option_map Err b.1)),
      )

  -- ---- iterating over a datagram

  -- The items of `bytes` are the items `so_far` and then the items of the remaining bytes, `rest`.
  pub record FoundItemsSoFar (bytes : List ℕ) (so_far : List (Item A))
      (rest : List ℕ) : Type 0 where
    pub items : (later : List (Item A)) → AreItemsOf is rest later
        → AreItemsOf is bytes (so_far ++ later)
    pub in_range : IsBytes bytes → IsBytes rest

  -- at the start all bytes remain
  pub no_items_yet : (bytes : List ℕ) → FoundItemsSoFar bytes [] bytes
  no_items_yet bytes = record { items = λ later h. h; in_range = λ h. h }

  -- the next message adds its item
  pub next_item_found : (bytes rest after message : List ℕ) (so_far : List (Item A))
      (item : Item A) → FoundItemsSoFar bytes so_far rest → StartsWithMessage rest message after
      → is message item → FoundItemsSoFar bytes (so_far ++ item ∷ []) after
  next_item_found bytes rest after message so_far item walk s one = record {
    items = λ later h. rw append_assoc
        (walk.items (item ∷ later) (leading_item rest message after item later s one h));
    in_range = λ h. rest_in_range rest message after s (walk.in_range h);
  }

-- If each message has an item, then:
module _ {A : Type 0} (is : List ℕ → Item A → Type 0) (some_item : (message : List ℕ)
    → IsBytes message → IsOfOwnLength message → (item : Item A) × is message item) where
  -- each datagram has items
  pub items_by_messages : (bytes : List ℕ) → IsBytes bytes → (items : List (Item A))
      × AreItemsOf is bytes items
  items_by_messages = by_length _ (λ bytes others fits. elim (some_or_none bytes) [
    | inl none ↦ ([], ([], None, [], none, tt, refl))
    | inr some ↦ elim (header_or_error bytes fits) [
      | inl (h, head) ↦
          let s = starts_with_message bytes _ _ h (h.length + padding_length h.length) head refl
          refl refl in
          let later = others _ (shorter-rest bytes _ _ s) (rest_in_range bytes _ _ s fits) in
          let item = some_item _ (message_in_range bytes _ _ s fits) s.whole in
          (item.0 ∷ later.0, leading_item is bytes _ _ item.0 later.0 s item.1 later.1)
      | inr f ↦ (Err f.0 ∷ [], error_is_only_item is bytes f.0 some f.1)
    ]
  ])

-- If each payload under a type has an inner message or an error, then:
module _ (C : Codec ℕ) (law : (b : List ℕ) (t : ℕ) → IsBytes b → ((m : C.Value) × C.parses b t m)
    ⊎ ((e : DecodeError) × C.rejects b t e)) where
  -- each message has an item
  pub item_of : (message : List ℕ) → IsBytes message → (item : Item C.Value)
      × IsItemOf C message item
  item_of message in_range = elim (message_or_error C message in_range law) [
    | inl v ↦ (Ok v.0.payload, (v.0.header, v.1))
    | inr e ↦ (Err e.0, e.1)
  ]

  -- each datagram has items
  pub items_of : (bytes : List ℕ) → IsBytes bytes → (items : List (Item C.Value))
      × AreItemsOf (IsItemOf C) bytes items
  items_of = items_by_messages (IsItemOf C) (λ message in_range whole. item_of message in_range)

  -- the items of a datagram, after some items and one more have been found
  pub items_with_next : (bytes rest after message : List ℕ) (so_far : List (Item C.Value))
      (item : Item C.Value) → IsBytes bytes → FoundItemsSoFar (IsItemOf C) bytes so_far rest
      → StartsWithMessage rest message after → IsItemOf C message item
      → (later : List (Item C.Value)) × AreItemsOf (IsItemOf C) bytes (so_far ++ (item ∷ later))
  items_with_next bytes rest after message so_far item in_range walk s is =
      let later = items_of after (rest_in_range rest message after s (walk.in_range in_range)) in (
        later.0,
        walk.items (item ∷ later.0)
            (leading_item (IsItemOf C) rest message after item later.0 s is later.1),
      )

-- If each message has at most one item, then:
module _ {A : Type 0} (is : List ℕ → Item A → Type 0) (one_item : (message : List ℕ)
    → IsBytes message → (i j : Item A) → is message i → is message j → i ≡ j) where
  -- messages have at most one list of items
  one_list_for_messages : (b : List ℕ) → IsBytes b
      → (messages : List (List ℕ)) (end : Option DecodeError)
      → SplitsIntoMessages b messages end → (vs ws : List (Item A))
      → AllZip is messages vs → AllZip is messages ws → vs ≡ ws
  one_list_for_messages b in_range (m ∷ messages) end cut (v ∷ vs) (w ∷ ws) h k =
      grind (
        arith,
        one_item m (message_in_range b m cut.0 cut.1 in_range) v w h.0 k.0,
        message_in_range b m cut.0 cut.1 in_range,
        one_list_for_messages cut.0 (rest_in_range b m cut.0 cut.1 in_range) messages end cut.2 vs
            ws h.1 k.1,
        rest_in_range b m cut.0 cut.1 in_range,
      )
  one_list_for_messages b in_range messages end cut vs ws h k = grind arith

  -- a datagram has at most one list of items
  pub one_list_by : (b : List ℕ) → IsBytes b → (xs ys : List (Item A))
      → AreItemsOf is b xs → AreItemsOf is b ys → xs ≡ ys
  one_list_by b in_range xs ys h k =
      grind (
        arith,
        one_split_into_messages b h.0 k.0 h.1 k.1 h.3 k.3,
        one_list_for_messages b in_range k.0 k.1 k.3 h.2 k.2,
      )

-- bytes start with exactly one message, or have exactly one error
pub one_result_of_message : (C : Codec ℕ) → KeepsCodecLaws C → (b : List ℕ) → IsBytes b
    → HasOneResult (netlink_codec C) b tt
one_result_of_message C laws b is_bytes =
    let same = messages_equal_iff_equivalent C laws.equal_iff_equivalent in
    only_result (netlink_codec C) b tt
    (λ v w parsed also. (same b b v w is_bytes is_bytes parsed also).1
    ((same b b v v is_bytes is_bytes parsed parsed).0 refl))
    (λ v e. message_or_error_apart C b v e (λ x t m. laws.is_exclusive x t m e))
    (λ e f. one_message_error C b e f (λ x t. laws.error_is_unique x t e f))
    (message_error_is_not_memory C b laws.error_is_not_memory)
    (message_or_error C b is_bytes laws.is_total)

-- If bytes have exactly one message or exactly one error, then:
module _ (C : Codec ℕ)
    (one : (b : List ℕ) → IsBytes b → HasOneResult (netlink_codec C) b tt) where
  -- each message has at most one item
  pub one_item : (b : List ℕ) → IsBytes b → (i j : Item C.Value) → IsItemOf C b i → IsItemOf C b j
      → i ≡ j
  one_item b in_range (Ok p) (Ok q) h k =
      ap (λ (v : NetlinkMessageModel C.Value). Ok v.payload)
      (equal_values (netlink_codec C) b tt (one b in_range)
      (record { header = h.0; payload = p }) (record { header = k.0; payload = q }) h.1 k.1)
  one_item b in_range (Ok p) (Err f) h k =
      absurd (value_or_error (netlink_codec C) b tt (one b in_range) _ f h.1 k)
  one_item b in_range (Err e) (Ok q) h k =
      absurd (value_or_error (netlink_codec C) b tt (one b in_range) _ e k.1 h)
  one_item b in_range (Err e) (Err f) h k =
      ap Err (equal_errors (netlink_codec C) b tt (one b in_range) e f h k)

  -- each datagram has at most one list of items
  pub one_list : (b : List ℕ) → IsBytes b → (xs ys : List (Item C.Value))
      → AreItemsOf (IsItemOf C) b xs → AreItemsOf (IsItemOf C) b ys → xs ≡ ys
  one_list = one_list_by (IsItemOf C) one_item
