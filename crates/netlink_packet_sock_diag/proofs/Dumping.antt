-- Reading the messages of a datagram one by one, up to the end of the dump.
use Rattle.std.proofs.Common.{◌≡◌, ◌≢◌, ◌↔◌, ℕ, ◌⊎◌, List, [], ◌∷◌, ◌++◌, refl, ◌∙◌, append_assoc}
use Rattle.std.proofs.Common.{arith, Bool, IsTrue}
use Rattle.std.specs.Prelude.{Some, None, Ok, Err, IsBitSet}
use Rattle.std.proofs.lemmas.List.{append-nil}
use Rattle.netlink_core.specs.Bytes.{IsBytes}
use Rattle.netlink_core.specs.declared.error.DecodeError.{DecodeError}
use Rattle.netlink_core.specs.declared.error.DecodeError.TheVariants.{Memory}
use Rattle.netlink_core.specs.declared.header.NetlinkHeader.{NetlinkHeader}
use Rattle.netlink_core.specs.Header.{HasHeader, IsMessageError}
use Rattle.netlink_core.specs.Datagram.{StartsWithMessage}
use Rattle.netlink_core.specs.declared.message.NetlinkPayload.TheVariants.{InnerMessage}
use Rattle.netlink_core.specs.Items.{Item, AreItemsOf}
use Rattle.netlink_core.proofs.Datagrams.{no_error_at_message, IsOfOwnLength}
use Rattle.netlink_core.proofs.Headers.{one_header}
use Rattle.netlink_core.proofs.Items.{items_by_messages, leading_item, rest_in_range}
use Rattle.netlink_core.proofs.Items.{error_is_only_item}
use Rattle.netlink_packet_sock_diag.specs.Dump.{dump_end_at, inner_message_list}
use Rattle.netlink_packet_sock_diag.specs.Feed.{InterruptsDump, ReadsDatagram, AllocationFailsAt}
use Rattle.netlink_packet_sock_diag.specs.Feed.{dump_with}
use Rattle.netlink_packet_sock_diag.proofs.DumpRows.{EndOrDecodeError, dump_is, first_or_later}
use Rattle.netlink_packet_sock_diag.proofs.DumpRows.{reach, reading_status}

-- the flag after a message was read, by the flags before it and in the remaining bytes
seen : {I W T A M N J B : Type 0} → ((I ⊎ T) ↔ (W ⊎ A)) → (T ↔ (M ⊎ N)) → (M ↔ B)
    → (J ↔ (I ⊎ B)) → ((J ⊎ N) ↔ (W ⊎ A))
seen all first mark step = grind arith

module _ {A : Type 0} (item_is : List ℕ → Item A → Type 0) where
  -- each message that is as long as its length field says has an item
  abbrev pub SomeItem : Type 0
  SomeItem = (message : List ℕ) → IsBytes message → IsOfOwnLength message
      → (item : Item A) × item_is message item

  -- The messages before `rest` have the items `passed`, and none of these ended the dump. Whatever
  -- items `later` the rest has, the datagram has the items `passed ++ later`, and the dump and its
  -- flag continue from `after` and `is`.
  pub record ReadingRest (datagram rest : List ℕ) (before after : List A)
      (was is : Bool) : Type 0 where
    pub passed : List (Item A)
    pub in_range : IsBytes rest
    pub items : (later : List (Item A)) → AreItemsOf item_is rest later
        → AreItemsOf item_is datagram (passed ++ later)
    pub leads : (later : List (Item A)) → reach before (passed ++ later) ≡ reach after later
    pub flags : (later : List (Item A)) → (IsTrue is ⊎ InterruptsDump rest later)
        ↔ (IsTrue was ⊎ InterruptsDump datagram (passed ++ later))

  -- the same when a message with this item is read: its flag is part of `now`, and `next` are the
  -- bytes after it
  pub record ReadingMessage (datagram next : List ℕ) (before after : List A) (was now : Bool)
      (item : Item A) : Type 0 where
    pub passed : List (Item A)
    pub in_range : IsBytes next
    pub items : (later : List (Item A)) → AreItemsOf item_is next later
        → AreItemsOf item_is datagram (passed ++ (item ∷ later))
    pub leads : (later : List (Item A)) → reach before (passed ++ later) ≡ reach after later
    pub flags : (later : List (Item A))
        → (IsTrue now ⊎ ((dump_end_at item ≡ None) × InterruptsDump next later))
        ↔ (IsTrue was ⊎ InterruptsDump datagram (passed ++ (item ∷ later)))

module _ {A : Type 0} {item_is : List ℕ → Item A → Type 0} {datagram rest : List ℕ}
    {before after : List A} {was is : Bool}
    (p : ReadingRest item_is datagram rest before after was is) where
  pub reading_next_message : {message next : List ℕ} {h : NetlinkHeader} {now : Bool}
      (item : Item A)
      → StartsWithMessage rest message next → HasHeader message h → item_is message item
      → (IsTrue now ↔ (IsTrue is ⊎ IsBitSet h.flags 4))
      → ReadingMessage item_is datagram next before after was now item
  reading_next_message {message} {next} {h} {now} item s head carried step = record {
    passed = p.passed;
    in_range = rest_in_range rest message next s p.in_range;
    items = λ later are.
        p.items (item ∷ later) (leading_item item_is rest message next item later s carried are);
    leads = p.leads;
    flags = λ later. seen (p.flags (item ∷ later)) (first_or_later rest message next item later s)
        (λ (k, own, bit). rw (one_header message k h own head) at bit, λ bit. (h, head, bit)) step;
  }

  -- the rest has no more messages: the datagram was read to its end
  pub datagram_read_to_end : (later : List (Item A)) (end : EndOrDecodeError)
      → AreItemsOf item_is rest later
      → reach after later ≡ (after, end) → (InterruptsDump rest later → ⊥)
      → ReadsDatagram item_is (dump_with before reading_status was, datagram)
      (dump_with after reading_status is, end)
  datagram_read_to_end later end are ends none = (
    p.passed ++ later,
    p.items later are,
    (dump_is before after (p.passed ++ later) end).1 (p.leads later ∙ ends),
    grind (arith, p.flags later, none),
  )

  pub rest_is_framing_error : {e : DecodeError} {T : Type 0} → rest ≢ [] → IsMessageError rest e
      → (e ≢ Memory → ReadsDatagram item_is (dump_with before reading_status was, datagram)
      (dump_with after reading_status is, Err e))
      × (e ≡ Memory → T)
  rest_is_framing_error {e} some error = (
    λ named. datagram_read_to_end (Err e ∷ []) (Err e)
        (error_is_only_item item_is rest e some error) refl
        (λ (m, next, s, _). no_error_at_message rest m next e s error),
    λ memory. absurd (rw memory at error),
  )

module _ {A : Type 0} {item_is : List ℕ → Item A → Type 0} {datagram next : List ℕ}
    {before after : List A} {was now : Bool} {item : Item A}
    (p : ReadingMessage item_is datagram next before after was now item) where
  pub message_does_not_end_dump : dump_end_at item ≡ None
      → ReadingRest item_is datagram next before (after ++ inner_message_list item) was now
  message_does_not_end_dump plain = record {
    passed = p.passed ++ item ∷ [];
    in_range = p.in_range;
    items = λ later are. rw append_assoc (p.items later are);
    leads = λ later. rw (append_assoc, p.leads (item ∷ later), plain);
    flags = λ later. rw append_assoc (grind (arith, p.flags later, plain));
  }

  pub message_ends_dump : {end : EndOrDecodeError} → SomeItem item_is → dump_end_at item ≡ Some end
      → ReadsDatagram item_is (dump_with before reading_status was, datagram)
      (dump_with after reading_status now, end)
  message_ends_dump {end} some ends =
      let later = items_by_messages item_is some next p.in_range in (
        p.passed ++ (item ∷ later.0),
        p.items later.0 later.1,
        (dump_is before after (p.passed ++ (item ∷ later.0)) end).1
            (p.leads (item ∷ later.0) ∙ (rw ends)),
        grind (arith, p.flags later.0, ends),
      )

pub message_is_rejected : {A : Type 0} {item_is : List ℕ → Item A → Type 0} {datagram next : List ℕ}
    {before after : List A} {was now : Bool} {value : A} → SomeItem item_is
    → ReadingMessage item_is datagram next before after was now (Ok (InnerMessage value))
    → AllocationFailsAt item_is (dump_with before reading_status was, datagram)
    (dump_with after reading_status now, value)
message_is_rejected {A} {item_is} {datagram} {next} {before} {after} {was} {now} {value} some p =
    let later = items_by_messages item_is some next p.in_range in (
      p.passed,
      later.0,
      p.items later.0 later.1,
      (dump_is before after p.passed (Ok reading_status)).1 (rw append-nil at (p.leads [])),
      grind (arith, p.flags []),
    )
