-- Feeding one more datagram to a reader of dumps keeps the invariant of its ghost field `fed`. Any
-- datagrams of bytes can be fed.
use Rattle.std.proofs.Common.{◌≡◌, ◌≢◌, ◌↔◌, ◌⊎◌, inl, inr, ℕ, List, [], ◌∷◌, ◌++◌, refl, sym}
use Rattle.std.proofs.Common.{◌∙◌, subst, arith, Bool, true, false, IsTrue}
use Rattle.std.proofs.lemmas.Bool.Decides.{eqb_tells}
use Rattle.std.proofs.lemmas.Fn.{FoldsTo-push}
use Rattle.std.specs.Prelude.{Option, Some, None, Result, Ok, Err, IsBitSet}
use Rattle.std.specs.List.{AllByRecursion, AllZip}
use Rattle.netlink_core.specs.Bytes.{IsBytes}
use Rattle.netlink_core.specs.laws.Byte.{IsBytes-left}
use Rattle.netlink_core.specs.Datagram.{SplitsIntoMessages}
use Rattle.netlink_core.specs.declared.error.DecodeError.{DecodeError}
use Rattle.netlink_core.specs.declared.error.DecodeError.TheVariants.{Memory}
use Rattle.netlink_core.specs.Items.{Item, AreItemsOf}
use Rattle.netlink_core.proofs.Datagrams.{no_error_at_message}
use Rattle.netlink_core.proofs.Headers.{header_or_error, one_header}
use Rattle.netlink_core.proofs.Items.{rest_in_range}
use Rattle.netlink_packet_sock_diag.specs.declared.dump.DumpState.TheVariants.{Failed, Reading}
use Rattle.netlink_packet_sock_diag.specs.declared.dump.DumpError.{DumpError}
use Rattle.netlink_packet_sock_diag.specs.declared.dump.DumpError.TheVariants.{Ended, Fault}
use Rattle.netlink_packet_sock_diag.specs.Dump.{dump_end_at, inner_message_list}
use Rattle.netlink_packet_sock_diag.specs.Feed.{DumpProgress, FeedLeadsTo, FeedingAllLeadsTo}
use Rattle.netlink_packet_sock_diag.specs.Feed.{FeedsWithMemory, InterruptsDump, IsReachedByFeeding}
use Rattle.netlink_packet_sock_diag.specs.Feed.{IsReading, NewReaderReaches, ReadsDatagram}
use Rattle.netlink_packet_sock_diag.specs.Feed.{dump_with, new_dump, status_of_dump}
use Rattle.netlink_packet_sock_diag.proofs.DumpRows.{EndOrDecodeError, IsMarked, SomeItems, dump_is}
use Rattle.netlink_packet_sock_diag.proofs.DumpRows.{error_after_messages, feeds_by_reading}
use Rattle.netlink_packet_sock_diag.proofs.DumpRows.{first_or_later, none_or_some, reach}
use Rattle.netlink_packet_sock_diag.proofs.DumpRows.{reading_status, state_left}

module _ {A : Type 0} (item_is : List ℕ → Item A → Type 0) where
  -- feeding one more datagram keeps the invariant
  pub reached_by_one_more : (before after : DumpProgress A) (datagram : List ℕ)
      (answer : Result Unit DumpError) → IsReachedByFeeding item_is before
      → FeedLeadsTo item_is (before, datagram) (after, answer) → IsReachedByFeeding item_is after
  reached_by_one_more before after datagram (Err Ended) fed f =
      subst (IsReachedByFeeding item_is) (sym f.1) fed
  reached_by_one_more before after datagram (Ok done) (datagrams, old, leave, inl same) f = (
    datagrams ++ datagram ∷ [],
    after,
    FoldsTo-push (FeedsWithMemory item_is) new_dump datagrams before datagram after
        (rw same at leave) (Ok done, f, λ e. cc),
    inl refl,
  )
  reached_by_one_more before after datagram (Err (Fault e)) (datagrams, old, leave, inl same) f =
      (datagrams, before, rw same at leave, inr (f.1, datagram, Err (Fault e), f))
  reached_by_one_more before after datagram answer (datagrams, old, leave, inr failed) f =
      let no : (Failed, None) ≡ reading_status = sym failed.0 ∙ f.0 in grind arith

-- ---- any datagrams can be fed

-- a property holds or not
abbrev Decided : Type 0 → Type 0
Decided P = P ⊎ ¬ P

-- a flag that is set if it was before, or if a property holds that is decided
flag_after : {P : Type 0} (was : Bool) → Decided P → (is : Bool) × (IsTrue is ↔ (IsTrue was ⊎ P))
flag_after true decided = (true, grind arith)
flag_after false (inl holds) = (true, grind (arith, holds))
flag_after false (inr fails) = (false, grind (arith, fails))

-- the induction step of `messages_interrupt_or_not`
decided_step : {I M E J : Type 0} → (I ↔ (M ⊎ (E × J))) → Decided M → Decided E → Decided J
    → Decided I
decided_step i m e j = grind arith

none_or_not : {X : Type 0} (end : Option X) → Decided (end ≡ None)
none_or_not end = grind arith

bit_set_or_not : (n k : ℕ) → Decided (IsBitSet n k)
bit_set_or_not n k = grind (arith, eqb_tells)

-- whether a message has the flag NLM_F_DUMP_INTR
marked_or_not : (message : List ℕ) → IsBytes message → Decided (IsMarked message)
marked_or_not message in_range = elim (header_or_error message in_range) [
  | inl (h, head) ↦ elim (bit_set_or_not h.flags 4) [
    | inl bit ↦ inl (h, head, bit)
    | inr none ↦ inr (λ (k, own, bit). none (rw (one_header message k h own head) at bit))
  ]
  | inr (e, error) ↦ inr (λ (k, own, bit). grind arith)
]

-- the dump is being read, or its state says that it has ended
abbrev ReadsOrEnded : {A : Type 0} → DumpProgress A → Type 0
ReadsOrEnded dump = IsReading dump ⊎ (dump.state ≢ Reading)

module _ {A : Type 0} (item_is : List ℕ → Item A → Type 0) where
  -- no message has the error `Memory`
  abbrev pub NeverMemory : Type 0
  NeverMemory = (message : List ℕ) → item_is message (Err Memory) → ⊥

  -- after any items a dump is being read, or has ended
  reads_or_ended : (before : List A) (items : List (Item A)) (new : DumpProgress A)
      → status_of_dump new ≡ state_left item_is (reach before items).1 → ReadsOrEnded new
  reads_or_ended before [] new is = inl is
  reads_or_ended before (x ∷ items) new is =
      grind (arith, reads_or_ended (before ++ inner_message_list x) items new)

  -- whether bytes interrupt a dump, by the messages that they are split into
  messages_interrupt_or_not : (bytes : List ℕ) → IsBytes bytes → (messages : List (List ℕ))
      (end : Option DecodeError) (carried : List (Item A)) → SplitsIntoMessages bytes messages end
      → AllZip item_is messages carried
      → Decided (InterruptsDump bytes (carried ++ error_after_messages end))
  messages_interrupt_or_not bytes in_range [] None [] cut each = inr (λ i. i)
  messages_interrupt_or_not bytes in_range [] (Some e) [] cut each =
      inr (λ (m, next, s, _). no_error_at_message bytes m next e s cut.1)
  messages_interrupt_or_not bytes in_range (m ∷ messages) end (x ∷ xs) (rest, s, cut) each =
      decided_step (first_or_later bytes m rest x (xs ++ error_after_messages end) s)
      (marked_or_not m (IsBytes-left m _ (rw s.parts at in_range))) (none_or_not (dump_end_at x))
      (messages_interrupt_or_not rest (rest_in_range bytes m rest s in_range) messages end xs cut
      each.1)
  messages_interrupt_or_not bytes in_range messages end carried cut each = grind arith

  -- whether a datagram interrupts a dump
  interrupts_or_not : (bytes : List ℕ) → IsBytes bytes → (items : List (Item A))
      → AreItemsOf item_is bytes items → Decided (InterruptsDump bytes items)
  interrupts_or_not bytes in_range items (messages, end, carried, cut, each, parts) =
      rw parts (messages_interrupt_or_not bytes in_range messages end carried cut each)

  -- no dump ends with the error `Memory`
  end_is_not_memory : NeverMemory → (bytes : List ℕ) (messages : List (List ℕ))
      (end : Option DecodeError) (carried : List (Item A)) → SplitsIntoMessages bytes messages end
      → AllZip item_is messages carried → (before : List A)
      → (reach before (carried ++ error_after_messages end)).1 ≢ Err Memory
  end_is_not_memory never bytes (m ∷ messages) end (x ∷ xs) (rest, s, cut) each before =
      grind (
        arith,
        never m,
        none_or_some (dump_end_at x),
        end_is_not_memory never rest messages end xs cut each.1 (before ++ inner_message_list x),
      )
  end_is_not_memory never bytes messages end carried cut each before = grind arith

  -- any datagram of bytes can be fed
  one_can_be_fed : SomeItems item_is → NeverMemory → (old : DumpProgress A) → ReadsOrEnded old
      → (datagram : List ℕ) → IsBytes datagram
      → (new : DumpProgress A) × FeedsWithMemory item_is old datagram new × ReadsOrEnded new
  one_can_be_fed some never old (inr over) datagram in_range =
      (old, (Err Ended, (over, refl), λ same. grind arith), inr over)
  one_can_be_fed some never old (inl reading) datagram in_range =
      let (items, are) = some datagram in_range in
      let (messages, end, carried, cut, each, parts) = are in
      let flag = flag_after old.is_interrupted (interrupts_or_not datagram in_range items are) in
      let after : List A = (reach old.messages items).0 in
      let last : EndOrDecodeError = (reach old.messages items).1 in
      let new : DumpProgress A = dump_with after (state_left item_is last) flag.0 in
      let named : last ≢ Err Memory =
      rw parts (end_is_not_memory never datagram messages end carried cut each old.messages) in
      let reads : ReadsDatagram item_is (old, datagram) (new, last) =
      (items, are, (dump_is old.messages after items last).1 refl, flag.1) in (
        new,
        feeds_by_reading item_is old new datagram last reading reads refl named,
        reads_or_ended old.messages items new refl,
      )

  -- and so can any datagrams of bytes
  all_can_be_fed : SomeItems item_is → NeverMemory → (datagrams : List (List ℕ))
      → AllByRecursion IsBytes datagrams → (old : DumpProgress A) → ReadsOrEnded old
      → (new : DumpProgress A) × FeedingAllLeadsTo item_is old datagrams new
  all_can_be_fed some never [] in_range old state = (old, refl)
  all_can_be_fed some never (datagram ∷ later) in_range old state =
      let one = one_can_be_fed some never old state datagram in_range.0 in
      let rest = all_can_be_fed some never later in_range.1 one.0 one.2 in
      (rest.0, (one.0, one.1, rest.1))

  -- they can be fed to a new reader
  pub datagrams_can_be_fed : SomeItems item_is → NeverMemory → (datagrams : List (List ℕ))
      → AllByRecursion IsBytes datagrams
      → (progress : DumpProgress A) × NewReaderReaches item_is datagrams progress
  datagrams_can_be_fed some never datagrams in_range =
      all_can_be_fed some never datagrams in_range new_dump (inl refl)
