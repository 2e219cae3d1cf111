-- What a reader of dumps keeps of a payload determines the item of the message.
use Rattle.std.proofs.Common.{◌≡◌, ℕ, List, inl, inr, refl, sym, ap, ◌∙◌, arith}
use Rattle.std.specs.Prelude.{Result, Ok, Err, MatchResult}
use Rattle.netlink_core.specs.Bytes.{IsBytes}
use Rattle.netlink_core.specs.Codec.{Codec, KeepsCodecLaws}
use Rattle.netlink_core.specs.NetlinkMessage.{Payload}
use Rattle.netlink_core.specs.declared.message.NetlinkPayload.TheVariants.{Done, Error, Noop}
use Rattle.netlink_core.specs.declared.message.NetlinkPayload.TheVariants.{Overrun, InnerMessage}
use Rattle.netlink_core.specs.Header.{IsMessageError}
use Rattle.netlink_core.specs.Items.{Item, IsItemOf}
use Rattle.netlink_core.specs.declared.error.DecodeError.{DecodeError}
use Rattle.netlink_core.proofs.Datagrams.{IsOfOwnLength}
use Rattle.netlink_core.proofs.Items.{item_of}
use Rattle.netlink_packet_sock_diag.specs.private.DumpEntry.{DeterminesItems}
use Rattle.netlink_packet_sock_diag.specs.Lossy.{HasLossyEntry}

-- a message that is as long as its length field says has no error in its header
pub no_error_in_message : (message : List ℕ) (e : DecodeError) → IsOfOwnLength message
    → IsMessageError message e → ⊥
no_error_in_message message e whole f = grind arith

module _ {A : Type 0} where
  -- the item of a message in a `LossyDump`: the decode error of an invalid message is kept as an
  -- inner message
  abbrev pub entry_of_item : Item A → Item (Result A DecodeError)
  entry_of_item (Ok (InnerMessage v)) = Ok (InnerMessage (Ok v))
  entry_of_item (Ok Noop) = Ok Noop
  entry_of_item (Ok (Done given)) = Ok (Done given)
  entry_of_item (Ok (Error given)) = Ok (Error given)
  entry_of_item (Ok (Overrun given)) = Ok (Overrun given)
  entry_of_item (Err e) = Ok (InnerMessage (Err e))

  -- the inverse of `entry_of_item`
  abbrev item_of_entry : Payload (Result A DecodeError) → Item A
  item_of_entry (InnerMessage (Ok v)) = Ok (InnerMessage v)
  item_of_entry (InnerMessage (Err e)) = Err e
  item_of_entry Noop = Ok Noop
  item_of_entry (Done given) = Ok (Done given)
  item_of_entry (Error given) = Ok (Error given)
  item_of_entry (Overrun given) = Ok (Overrun given)

  entry_of_item_of_entry : (payload : Payload (Result A DecodeError))
      → entry_of_item (item_of_entry payload) ≡ Ok payload
  entry_of_item_of_entry (InnerMessage (Ok v)) = refl
  entry_of_item_of_entry (InnerMessage (Err e)) = refl
  entry_of_item_of_entry Noop = refl
  entry_of_item_of_entry (Done given) = refl
  entry_of_item_of_entry (Error given) = refl
  entry_of_item_of_entry (Overrun given) = refl

module _ (C : Codec ℕ) where
  pub is_entry : (message : List ℕ) (item : Item C.Value) → IsOfOwnLength message
      → IsItemOf C message item → HasLossyEntry C message (entry_of_item item)
  is_entry message (Ok (InnerMessage v)) whole (h, (head, is)) = (h, head, is)
  is_entry message (Ok Noop) whole (h, (head, is)) = (h, head, is)
  is_entry message (Ok (Done given)) whole (h, (head, is)) = (h, head, is)
  is_entry message (Ok (Error given)) whole (h, (head, is)) = (h, head, is)
  is_entry message (Ok (Overrun given)) whole (h, (head, is)) = (h, head, is)
  is_entry message (Err e) whole (inl error) = absurd (no_error_in_message message e whole error)
  is_entry message (Err e) whole (inr (h, head, other, refused)) = (h, head, (other, refused))

  is_item : (message : List ℕ) (payload : Payload (Result C.Value DecodeError))
      → HasLossyEntry C message (Ok payload) → IsItemOf C message (item_of_entry payload)
  is_item message (InnerMessage (Ok v)) (h, head, is) = (h, (head, is))
  is_item message (InnerMessage (Err e)) (h, head, is) = inr (h, head, is.0, is.1)
  is_item message Noop (h, head, is) = (h, (head, is))
  is_item message (Done given) (h, head, is) = (h, (head, is))
  is_item message (Error given) (h, head, is) = (h, (head, is))
  is_item message (Overrun given) (h, head, is) = (h, (head, is))

  -- if a message has at most one item, it has at most one entry
  pub one_entry : ((message : List ℕ) → IsBytes message → (i j : Item C.Value)
      → IsItemOf C message i → IsItemOf C message j → i ≡ j)
      → (message : List ℕ) → IsBytes message → (i j : Item (Result C.Value DecodeError))
      → HasLossyEntry C message i → HasLossyEntry C message j → i ≡ j
  one_entry one message in_range (Ok p) (Ok q) h k =
      let same = one message in_range (item_of_entry p) (item_of_entry q) (is_item message p h)
      (is_item message q k) in
      sym (entry_of_item_of_entry p) ∙ ap entry_of_item same ∙ entry_of_item_of_entry q
  one_entry one message in_range (Err e) j h k = absurd h
  one_entry one message in_range (Ok p) (Err f) h k = absurd k

module _ (C : Codec ℕ) (laws : KeepsCodecLaws C) where
  pub messages_determine_items : DeterminesItems C.parses C.rejects (IsItemOf C)
  messages_determine_items = record {
    payload_is_item = λ message h payload head is. (h, (head, is));
    error_is_item = λ message h e head other refused. inr (h, head, other, refused);
    has_item = λ message in_range whole. item_of C laws.is_total message in_range;
  }

  pub entries_determine_items : DeterminesItems
      (λ b t entry. MatchResult entry (C.parses b t) (C.rejects b t))
      (λ b t e. ⊥) (HasLossyEntry C)
  entries_determine_items = record {
    payload_is_item = λ message h payload head is. (h, head, is);
    error_is_item = λ message h e head other never. absurd never;
    has_item = λ message in_range whole.
        let item = item_of C laws.is_total message in_range in
        (entry_of_item item.0, is_entry C message item.0 whole item.1);
  }
