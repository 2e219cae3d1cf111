-- Each list of items has exactly one dump. The dump over two concatenated lists is the dump over
-- the first list, continued over the second list.
use Rattle.std.proofs.lemmas.Grind.{common_steps}
use Rattle.std.proofs.Common.{◌≡◌, ◌≢◌, ◌↔◌, ℕ, ◌⊎◌, inl, inr, List, [], ◌∷◌, ◌++◌, refl, sym, ap}
use Rattle.std.proofs.Common.{◌∙◌, append_assoc, arith, Bool, IsTrue, ◌%◌, length}
use Rattle.std.specs.Option.{option_to_list}
use Rattle.std.specs.Prelude.{MatchOption, Option, Some, None, Result, Ok, Err, slice_get, IsBitSet}
use Rattle.std.specs.Prelude.{option_map}
use Rattle.std.specs.List.{AllByRecursion, AllZip, concat, flat_map}
use Rattle.std.proofs.lemmas.List.{append-nil}
use Rattle.netlink_core.specs.declared.error.DecodeError.{DecodeError}
use Rattle.netlink_core.specs.declared.header.NetlinkHeader.{NetlinkHeader}
use Rattle.netlink_core.specs.Bytes.{IsBytes}
use Rattle.netlink_core.specs.Codec.{Codec, KeepsCodecLaws}
use Rattle.netlink_core.specs.Header.{HasHeader}
use Rattle.netlink_core.specs.declared.error.DecodeError.TheVariants.{Memory}
use Rattle.netlink_core.specs.laws.Byte.{IsBytes-nil}
use Rattle.netlink_core.specs.Datagram.{SplitsIntoMessages, StartsWithMessage}
use Rattle.netlink_core.specs.Items.{Item, IsItemOf, AreItemsOf}
use Rattle.netlink_core.proofs.Datagrams.{one_message, starts_in_concatenation}
use Rattle.netlink_core.proofs.Items.{no_items, items_of, items_of_concatenation}
use Rattle.netlink_core.proofs.Items.{one_item, one_list_by, items_of_padded_messages}
use Rattle.netlink_core.proofs.Items.{one_result_of_message}
use Rattle.netlink_packet_sock_diag.specs.declared.dump.DumpState.TheVariants.{Reading, Failed}
use Rattle.netlink_packet_sock_diag.specs.declared.dump.DumpError.{DumpError}
use Rattle.netlink_packet_sock_diag.specs.declared.dump.DumpError.TheVariants.{Ended, Fault}
use Rattle.netlink_packet_sock_diag.specs.Dump.{AreCompleteExceptLast, AreSplitsOfSameBytes}
use Rattle.netlink_packet_sock_diag.specs.Dump.{DumpOfDatagrams, DumpOfItems, DumpStatus}
use Rattle.netlink_packet_sock_diag.specs.Dump.{HaveSameItems, IsCompleteSplit, concatenation}
use Rattle.netlink_packet_sock_diag.specs.Dump.{dump_end_at, inner_message_list}
use Rattle.netlink_packet_sock_diag.specs.Feed.{DumpProgress, FeedLeadsTo, FeedingAllLeadsTo}
use Rattle.netlink_packet_sock_diag.specs.Feed.{FeedsWithMemory, InterruptsDump, IsReading}
use Rattle.netlink_packet_sock_diag.specs.Feed.{ReadsDatagram, status_of_dump, new_dump}

-- the dump has not ended
abbrev pub reading_status : DumpStatus
reading_status = (Reading, None)

-- how a dump ends, or its error
abbrev pub EndOrDecodeError : Type 0
EndOrDecodeError = Result DumpStatus DecodeError

-- the error of the bytes after the messages of a datagram, if there is one
abbrev pub error_after_messages : {A : Type 0} → Option DecodeError → List (Item A)
error_after_messages end = option_to_list (option_map Err end)

-- the first of the later items ends the dump; if there are none, the dump is still being read
abbrev pub DumpEndsAt : {A : Type 0} → List (Item A) → EndOrDecodeError → Type 0
DumpEndsAt later end = MatchOption (slice_get later 0) (end ≡ Ok reading_status)
    (λ item. dump_end_at item ≡ Some end)

-- the dump continues, if it was still being read; otherwise its messages and its end are unchanged
abbrev pub DumpContinues : {A : Type 0} → List A → EndOrDecodeError → List (Item A) → List A
    → EndOrDecodeError → Type 0
DumpContinues middle state items after end =
    ((state ≡ Ok reading_status) × DumpOfItems (middle, items) (after, end))
    ⊎ ((state ≢ Ok reading_status) × (after ≡ middle) × (end ≡ state))

-- no item ends a dump
abbrev NoItemEndsDump : {A : Type 0} → List (Item A) → Type 0
NoItemEndsDump items = AllByRecursion (λ item. dump_end_at item ≡ None) items

pub none_or_some : {X : Type 0} (end : Option X) → (end ≡ None) ⊎ ((x : X) × (end ≡ Some x))
none_or_some None = inl refl
none_or_some (Some x) = inr (x, refl)

-- the induction step of `flags_of_concatenation`
further : {T M E I O K P J : Type 0} → (T ↔ (M ⊎ (E × I))) → (O ↔ (M ⊎ (E × K)))
    → (I ↔ (K ⊎ (P × J))) → (T ↔ (O ⊎ ((E × P) × J)))
further t o i = grind arith

-- the induction step of `feeds_dump`, for the flag
grows : {W M N X Z P I : Type 0} → (M ↔ (W ⊎ X)) → (N ↔ (M ⊎ (P × I))) → (Z ↔ (X ⊎ (P × I)))
    → (N ↔ (W ⊎ Z))
grows m n z = grind arith

-- two flags with the same meaning are equal
one_flag : {P : Type 0} (x y : Bool) → (IsTrue x ↔ P) → (IsTrue y ↔ P) → x ≡ y
one_flag x y p q =
    grind (arith, p, q)

module _ {A : Type 0} where
  -- if an item ends the dump, the messages before it and its end; otherwise what the later items
  -- lead to
  abbrev end_or_continue : Option EndOrDecodeError → List A → List A × EndOrDecodeError
      → List A × EndOrDecodeError
  end_or_continue None before later = later
  end_or_continue (Some end) before later = (before, end)

  -- the messages that a dump keeps of the items, and how it ends, by recursion
  abbrev pub reach : List A → List (Item A) → List A × EndOrDecodeError
  reach before [] = (before, Ok reading_status)
  reach before (x ∷ xs) = end_or_continue (dump_end_at x) before
      (reach (before ++ inner_message_list x) xs)

  reached : (before : List A) (passed later : List (Item A)) (end : EndOrDecodeError)
      → NoItemEndsDump passed
      → DumpEndsAt later end → reach before (passed ++ later)
      ≡ (before ++ flat_map inner_message_list passed, end)
  reached before [] [] end plain ends = rw (append-nil, ends)
  reached before [] (x ∷ later) end plain ends = rw (append-nil, ends)
  reached before (x ∷ passed) later end plain ends =
      grind (
        arith,
        reached (before ++ inner_message_list x) passed later end plain.1 ends,
        append_assoc,
      )

  reaches : (before : List A) (items : List (Item A))
      → DumpOfItems (before, items) ((reach before items).0, (reach before items).1)
  reaches before [] = ([], [], refl, tt, sym (append-nil before), refl)
  reaches before (x ∷ items) = elim (none_or_some (dump_end_at x)) [
    | inl plain ↦
        let d = reaches (before ++ inner_message_list x) items in
        let all : x ∷ items ≡ x ∷ (d.0 ++ d.1) = cc in
        rw plain (
          x ∷ d.0,
          d.1,
          all,
          (plain, d.3),
          d.4 ∙ append_assoc before (inner_message_list x) _,
          d.5,
        )
    | inr (end, ends) ↦ rw ends ([], x ∷ items, refl, tt, sym (append-nil before), ends)
  ]

  pub dump_is : (before after : List A) (items : List (Item A)) (end : EndOrDecodeError)
      → DumpOfItems (before, items) (after, end) ↔ (reach before items ≡ (after, end))
  dump_is before after items end =
      grind (arith, reached before, reaches before items)

  pub has_dump : (before : List A) (items : List (Item A))
      → (after : List A) × (end : EndOrDecodeError) × DumpOfItems (before, items) (after, end)
  has_dump before items = (_, _, reaches before items)

  pub one_dump : (before : List A) (items : List (Item A)) (a b : List A) (e f : EndOrDecodeError)
      → DumpOfItems (before, items) (a, e) → DumpOfItems (before, items) (b, f) → (a ≡ b) × (e ≡ f)
  one_dump before items a b e f d t =
      grind (arith, dump_is before a items e, dump_is before b items f)

  -- a dump that is still being read has no error number
  pub reading_has_no_error_number : (items : List (Item A)) (s : DumpStatus)
      → DumpEndsAt items (Ok s) → s.0 ≡ Reading
      → s ≡ reading_status
  reading_has_no_error_number items s ends is =
      grind arith

  -- a dump is still being read if and only if no item ends it
  reading_iff_no_item_ends : (before : List A) (items : List (Item A))
      → ((reach before items).1 ≡ Ok reading_status) ↔ NoItemEndsDump items
  reading_iff_no_item_ends before [] = grind arith
  reading_iff_no_item_ends before (x ∷ items) =
      grind (arith, reading_iff_no_item_ends (before ++ inner_message_list x) items)

  no_end_reads : (item : Item A) (end : EndOrDecodeError) → dump_end_at item ≡ Some end
      → end ≢ Ok reading_status
  no_end_reads item end ends is = grind arith

  -- the dump over two concatenated lists continues over the second list, if the first does not end
  -- it
  dump_continues : (before : List A) (xs ys : List (Item A)) (after : List A)
      (end : EndOrDecodeError)
      → (reach before (xs ++ ys) ≡ (after, end)) ↔ ((((reach before xs).1 ≡ Ok reading_status)
      × (reach (reach before xs).0 ys ≡ (after, end)))
      ⊎ (((reach before xs).1 ≢ Ok reading_status) × (after ≡ (reach before xs).0)
      × (end ≡ (reach before xs).1)))
  dump_continues before [] ys after end = grind arith
  dump_continues before (x ∷ xs) ys after end =
      grind (
        arith,
        none_or_some (dump_end_at x),
        dump_continues (before ++ inner_message_list x) xs ys after end,
        no_end_reads x,
      )

  pub dump_of_joined : (before middle after : List A) (state end : EndOrDecodeError)
      (xs ys : List (Item A))
      → DumpOfItems (before, xs) (middle, state) → DumpContinues middle state ys after end
      → DumpOfItems (before, xs ++ ys) (after, end)
  dump_of_joined before middle after state end xs ys d on =
      grind (
        arith,
        dump_is before middle xs state,
        dump_is before after (xs ++ ys) end,
        dump_continues before xs ys after end,
        dump_is middle after ys end,
      )

  pub parted : (before after : List A) (end : EndOrDecodeError) (xs ys : List (Item A))
      → DumpOfItems (before, xs ++ ys) (after, end) → (middle : List A) × (state : EndOrDecodeError)
      × DumpOfItems (before, xs) (middle, state) × DumpContinues middle state ys after end
  parted before after end xs ys d = (
    _,
    _,
    reaches before xs,
    elim ((dump_continues before xs ys after end).0 ((dump_is before after (xs ++ ys) end).0 d)) [
      | inl on ↦ inl (on.0, (dump_is _ after ys end).1 on.1)
      | inr off ↦ inr off
    ],
  )

-- the concatenation of byte strings is a byte string
pub bytes-concatenation : (datagrams : List (List ℕ)) → AllByRecursion IsBytes datagrams
    → IsBytes (concat datagrams)
bytes-concatenation [] in_range = IsBytes-nil
bytes-concatenation (b ∷ later) in_range =
    grind (arith, common_steps, bytes-concatenation later in_range.1)

-- the header of the message has the flag NLM_F_DUMP_INTR
abbrev pub IsMarked : List ℕ → Type 0
IsMarked message = (h : NetlinkHeader) × HasHeader message h × IsBitSet h.flags 4

-- bytes interrupt a dump by their first message, or by the messages after it
pub first_or_later : {A : Type 0} (bytes message rest : List ℕ) (item : Item A)
    (items : List (Item A)) → StartsWithMessage bytes message rest
    → (InterruptsDump bytes (item ∷ items)
    ↔ (IsMarked message ⊎ ((dump_end_at item ≡ None) × InterruptsDump rest items)))
first_or_later bytes message rest item items s = (
  λ i. let same = one_message bytes message i.0 rest i.1 s i.2 in rw (same.0, same.1) i.3,
  λ e. (message, rest, s, e),
)

module _ {A : Type 0} (item_is : List ℕ → Item A → Type 0) where
  -- all bytes have a list of items
  abbrev pub SomeItems : Type 0
  SomeItems = (b : List ℕ) → IsBytes b → (items : List (Item A)) × AreItemsOf item_is b items

  abbrev pub OneList : Type 0
  OneList = (b : List ℕ) → IsBytes b → (xs ys : List (Item A)) → AreItemsOf item_is b xs
      → AreItemsOf item_is b ys → xs ≡ ys

  -- each datagram has a list of items
  pub items_of_each : SomeItems → (datagrams : List (List ℕ)) → AllByRecursion IsBytes datagrams
      → (parts : List (List (Item A))) × AllZip (AreItemsOf item_is) datagrams parts
  items_of_each some [] in_range = ([], tt)
  items_of_each some (b ∷ later) in_range =
      let first = some b in_range.0 in
      let rest = items_of_each some later in_range.1 in
      (first.0 ∷ rest.0, (first.1, rest.1))

  -- datagrams have at most one list of items each
  pub one_row : OneList → (datagrams : List (List ℕ)) → AllByRecursion IsBytes datagrams
      → (xs ys : List (List (Item A))) → AllZip (AreItemsOf item_is) datagrams xs
      → AllZip (AreItemsOf item_is) datagrams ys → xs ≡ ys
  one_row one (b ∷ later) in_range (x ∷ xs) (y ∷ ys) h k =
      cc (one b in_range.0 x y h.0 k.0, one_row one later in_range.1 xs ys h.1 k.1)
  one_row one datagrams in_range xs ys h k = grind arith

  pub equal_dumps : OneList → (datagrams others : List (List ℕ))
      → AllByRecursion IsBytes datagrams → HaveSameItems item_is datagrams others
      → (before after : List A) (end : EndOrDecodeError)
      → DumpOfDatagrams item_is (before, datagrams) (after, end)
      → DumpOfDatagrams item_is (before, others) (after, end)
  equal_dumps one datagrams others in_range (xs, ys, each, also, same) before after end
      (items, are, d) =
      let parts = one_row one datagrams in_range items xs are each in
      (ys, also, rw (← same, ← parts) d)

  -- datagrams have at most one dump
  pub one_dumps : OneList → (before : List A) (datagrams : List (List ℕ))
      → AllByRecursion IsBytes datagrams → (a b : List A) (e f : EndOrDecodeError)
      → DumpOfDatagrams item_is (before, datagrams) (a, e)
      → DumpOfDatagrams item_is (before, datagrams) (b, f)
      → (a ≡ b) × (e ≡ f)
  one_dumps one before datagrams in_range a b e f (items, are, d) (parts, also, t) =
      let same = one_row one datagrams in_range items parts are also in
      one_dump before (concatenation parts) a b e f (rw same at d) t

  -- a datagram leads to at most one list of messages, end and flag
  datagram_leads_to_one_dump : OneList → (b : List ℕ) → IsBytes b
      → (old p q : DumpProgress A) (e f : EndOrDecodeError)
      → ReadsDatagram item_is (old, b) (p, e) → ReadsDatagram item_is (old, b) (q, f)
      → (p.messages ≡ q.messages) × (e ≡ f)
      × (p.is_interrupted ≡ q.is_interrupted)
  datagram_leads_to_one_dump one b in_range old p q e f t u =
      let rows = one b in_range t.0 u.0 t.1 u.1 in
      let ends = one_dump old.messages u.0 p.messages q.messages e f (rw rows at t.2) u.2 in
      (ends.0, ends.1, one_flag p.is_interrupted q.is_interrupted (rw rows at t.3) u.3)

  -- ---- how complete messages are split into datagrams

  -- either there is no later datagram, or the datagram consists of complete messages
  last_or_complete : (b : List ℕ) (later : List (List ℕ)) (parts : List (List (Item A)))
      → AreCompleteExceptLast (b ∷ later) → AllZip (AreItemsOf item_is) later parts
      → ((later ≡ []) × (parts ≡ [])) ⊎ ((messages : List (List ℕ))
      × SplitsIntoMessages b messages None × (length b % 4 ≡ 0))
  last_or_complete b later parts split each =
      grind arith

  -- the items of split datagrams, concatenated, are the items of the concatenated bytes
  split_items : (datagrams : List (List ℕ)) (parts : List (List (Item A)))
      → AreCompleteExceptLast datagrams → AllZip (AreItemsOf item_is) datagrams parts
      → AreItemsOf item_is (concat datagrams) (concatenation parts)
  split_items [] [] split each = no_items item_is
  split_items (b ∷ later) (p ∷ parts) split each =
      elim (last_or_complete b later parts split each.1) [
        | inl none ↦ rw (none.0, none.1, append-nil b, append-nil p) each.0
        | inr whole ↦ items_of_concatenation item_is b (concat later) whole.0 p
            (concatenation parts)
            (whole.1, whole.2) each.0 (split_items later parts split.1 each.1)
      ]
  split_items datagrams parts split each = grind arith

  -- two splits of the same bytes have the same items
  pub items_of_splits : SomeItems → OneList → (datagrams others : List (List ℕ))
      → AreSplitsOfSameBytes datagrams others → HaveSameItems item_is datagrams others
  items_of_splits some one datagrams others (split, other, same) =
      let parts = items_of_each some datagrams split.0 in
      let other_parts = items_of_each some others other.0 in
      let bytes : AreItemsOf item_is (concat others) (concatenation parts.0) =
      rw same at (split_items datagrams parts.0 split.1 parts.1) in (
        parts.0,
        other_parts.0,
        parts.1,
        other_parts.1,
        one (concat others) (bytes-concatenation others other.0) (concatenation parts.0)
            (concatenation other_parts.0) bytes
            (split_items others other_parts.0 other.1 other_parts.1),
      )

  -- a dump over the items of a single datagram is a dump over the list of these items
  of_one_part : (before : List A) (datagram : List ℕ) (after : List A) (end : EndOrDecodeError)
      (parts : List (List (Item A))) → AllZip (AreItemsOf item_is) (datagram ∷ []) parts
      → DumpOfItems (before, concatenation parts) (after, end)
      → (items : List (Item A)) × AreItemsOf item_is datagram items
      × DumpOfItems (before, items) (after, end)
  of_one_part before datagram after end (items ∷ []) are d = (items, are.0, rw append-nil at d)
  of_one_part before datagram after end parts are d = grind arith

  -- the dump over the items of one datagram
  abbrev pub DatagramDump : List A → List ℕ → List A → EndOrDecodeError → Type 0
  DatagramDump before datagram after end =
      (items : List (Item A)) × AreItemsOf item_is datagram items
      × DumpOfItems (before, items) (after, end)

  -- it is the dump over a list of this one datagram
  pub dump_of_one : (before : List A) (datagram : List ℕ) (after : List A) (end : EndOrDecodeError)
      → DatagramDump before datagram after end
      ↔ DumpOfDatagrams item_is (before, datagram ∷ []) (after, end)
  dump_of_one before datagram after end = (
    λ (items, are, d). (items ∷ [], (are, tt), rw append-nil d),
    λ (parts, are, d). of_one_part before datagram after end parts are d,
  )

  -- the dump over split datagrams is the dump over the items of the concatenated bytes
  pub dump_of_split : (datagrams : List (List ℕ)) → AreCompleteExceptLast datagrams
      → (before after : List A) (end : EndOrDecodeError)
      → DumpOfDatagrams item_is (before, datagrams) (after, end)
      → DatagramDump before (concat datagrams) after end
  dump_of_split datagrams split before after end (items, are, d) =
      (concatenation items, split_items datagrams items split are, d)

  -- the converse of `dump_of_split`
  pub split_of_dump : SomeItems → OneList → (datagrams : List (List ℕ))
      → AllByRecursion IsBytes datagrams → AreCompleteExceptLast datagrams
      → (before after : List A) (end : EndOrDecodeError)
      → DatagramDump before (concat datagrams) after end
      → DumpOfDatagrams item_is (before, datagrams) (after, end)
  split_of_dump some one datagrams in_range split before after end d =
      let parts = items_of_each some datagrams in_range in
      let bytes = concat datagrams in
      let same = one bytes (bytes-concatenation datagrams in_range) d.0 (concatenation parts.0) d.1
      (split_items datagrams parts.0 split parts.1) in
      (parts.0, parts.1, rw same at d.2)

  -- ---- the result of feeding

  -- the flag in complete messages that are followed by more bytes
  flags_of_concatenation : (front back : List ℕ) (messages : List (List ℕ))
      (xs ys : List (Item A)) → SplitsIntoMessages front messages None × (length front % 4 ≡ 0)
      → AllZip item_is messages xs → (InterruptsDump (front ++ back) (xs ++ ys)
      ↔ (InterruptsDump front xs ⊎ (NoItemEndsDump xs × InterruptsDump back ys)))
  flags_of_concatenation front back [] [] ys whole each = rw whole.0 (grind arith)
  flags_of_concatenation front back (m ∷ messages) (x ∷ xs) ys whole each =
      let rest = whole.0.0 in
      let more = starts_in_concatenation front back m rest whole.0.1 whole.1 in
      let all = first_or_later (front ++ back) m (rest ++ back) x (xs ++ ys) more.0 in
      let own = first_or_later front m rest x xs whole.0.1 in
      let later = flags_of_concatenation rest back messages xs ys (whole.0.2, more.1) each.1 in
      further all own later
  flags_of_concatenation front back messages xs ys whole each = grind arith

  -- the flag in a datagram that is followed by other datagrams
  flags_of_split : (b : List ℕ) (later : List (List ℕ)) (items : List (Item A))
      (parts : List (List (Item A))) → AreCompleteExceptLast (b ∷ later)
      → AreItemsOf item_is b items
      → AllZip (AreItemsOf item_is) later parts
      → (InterruptsDump (b ++ concat later) (items ++ concatenation parts)
      ↔ (InterruptsDump b items ⊎ (NoItemEndsDump items
      × InterruptsDump (concat later) (concatenation parts))))
  flags_of_split b later items parts split are each =
      grind (
        arith,
        last_or_complete b later parts split each,
        append-nil b,
        append-nil items,
        flags_of_concatenation b (concat later),
        items_of_padded_messages item_is,
      )

  -- the state that a dump has after it ended so
  abbrev pub state_left : EndOrDecodeError → DumpStatus
  state_left (Ok state) = state
  state_left (Err e) = (Failed, None)

  state_left_is_reading : (end : EndOrDecodeError) → state_left end ≡ reading_status
      → end ≡ Ok reading_status
  state_left_is_reading end is = grind arith

  feed_step : (old new : DumpProgress A) (datagram : List ℕ) (answer : Result Unit DumpError)
      → IsReading old → FeedLeadsTo item_is (old, datagram) (new, answer)
      → answer ≢ Err (Fault Memory)
      → (end : EndOrDecodeError) × ReadsDatagram item_is (old, datagram) (new, end)
      × (status_of_dump new ≡ state_left end) × (end ≢ Err Memory)
  feed_step old new datagram answer reading f some =
      grind arith

  -- reading a datagram, without the error `Memory`, is feeding it
  pub feeds_by_reading : (old new : DumpProgress A) (datagram : List ℕ) (end : EndOrDecodeError)
      → IsReading old → ReadsDatagram item_is (old, datagram) (new, end)
      → status_of_dump new ≡ state_left end → end ≢ Err Memory
      → FeedsWithMemory item_is old datagram new
  feeds_by_reading old new datagram (Ok status) reading reads is some =
      (Ok tt, (reading, rw (← is) at reads), λ e. grind arith)
  feeds_by_reading old new datagram (Err e) reading reads is some = (
    Err (Fault e),
    (reading, is, λ no. reads, λ m. grind (arith, some)),
    λ same. grind (arith, some),
  )

  ended_stays : (datagrams : List (List ℕ)) (old new : DumpProgress A) → ¬ IsReading old
      → FeedingAllLeadsTo item_is old datagrams new → new ≡ old
  ended_stays (datagram ∷ later) old new over (next, (Err Ended, leaves, some), more) =
      grind (arith, ended_stays later old new over)
  ended_stays datagrams old new over f = grind arith

  -- Feeding datagrams in order leads to their dump. If they are split, the dump is interrupted if
  -- and only if it was before, or the concatenated bytes interrupt it.
  feeds_dump : SomeItems → (datagrams : List (List ℕ)) → AllByRecursion IsBytes datagrams
      → (old new : DumpProgress A) → IsReading old → FeedingAllLeadsTo item_is old datagrams new
      → (end : EndOrDecodeError)
      × (all : DumpOfDatagrams item_is (old.messages, datagrams) (new.messages, end))
      × (status_of_dump new ≡ state_left end) × (end ≢ Err Memory)
      × (AreCompleteExceptLast datagrams → (IsTrue new.is_interrupted
      ↔ (IsTrue old.is_interrupted ⊎ InterruptsDump (concat datagrams) (concatenation all.0))))
  feeds_dump some [] in_range old new reading f = rw (← f) (
    Ok reading_status,
    ([], tt, (dump_is old.messages old.messages [] (Ok reading_status)).1 refl),
    reading,
    λ is. grind arith,
    λ split. grind arith,
  )
  feeds_dump some (datagram ∷ later) in_range old new reading f =
      let one = feed_step old f.0 datagram f.1.0 reading f.1.1 f.1.2 in
      let items = one.1.0 in
      let are = one.1.1 in
      let went = (dump_is old.messages f.0.messages items one.0).0 one.1.2 in
      let plain = rw went at (reading_iff_no_item_ends old.messages items) in
      elim (rw went at ((dump_continues old.messages items [] _ _).0 refl)) [
        | inl on ↦
            let rest = feeds_dump some later in_range.1 f.0 new (one.2 ∙ ap state_left on.0) f.2 in
            let parts = rest.1 in (
              rest.0,
              (
                items ∷ parts.0,
                (are, parts.1),
                dump_of_joined old.messages f.0.messages new.messages one.0 rest.0 items
                    (concatenation parts.0) one.1.2
                    (inl (on.0, parts.2)),
              ),
              rest.2,
              rest.3,
              λ split. grows one.1.3 (let flag = rest.4 split.1 in grind (arith, plain.0 on.0))
                  (flags_of_split datagram later items parts.0 split are parts.1),
            )
        | inr off ↦
            let parts = items_of_each some later in_range.1 in
            rw (ended_stays later f.0 new (λ is. off.0
            (state_left_is_reading one.0 (sym one.2 ∙ is))) f.2) (
              one.0,
              (
                items ∷ parts.0,
                (are, parts.1),
                dump_of_joined old.messages f.0.messages f.0.messages one.0 one.0 items
                    (concatenation parts.0) one.1.2
                    (inr (off.0, refl, refl)),
              ),
              one.2,
              one.3,
              λ split. grows one.1.3 (grind (arith, plain.1))
                  (flags_of_split datagram later items parts.0 split are parts.1),
            )
      ]

module _ (C : Codec ℕ) (laws : KeepsCodecLaws C) where
  pub some_items : SomeItems (IsItemOf C)
  some_items = items_of C laws.is_total

  -- a message has at most one item
  pub one_item_of : (message : List ℕ) → IsBytes message → (i j : Item C.Value)
      → IsItemOf C message i → IsItemOf C message j → i ≡ j
  one_item_of = one_item C (one_result_of_message C laws)

  pub one_list_of : OneList (IsItemOf C)
  one_list_of = one_list_by (IsItemOf C) one_item_of

module _ {A : Type 0} (item_is : List ℕ → Item A → Type 0) (some : SomeItems item_is)
    (one : OneList item_is) where
  -- feeding split datagrams leads to the dump over the concatenated bytes
  feeding_split_is_dump : (datagrams : List (List ℕ)) → IsCompleteSplit datagrams
      → (progress : DumpProgress A) → FeedingAllLeadsTo item_is new_dump datagrams progress
      → (all : (end : EndOrDecodeError)
      × ReadsDatagram item_is (new_dump, concat datagrams) (progress, end))
      × (status_of_dump progress ≡ state_left item_is all.0) × (all.0 ≢ Err Memory)
  unfolding dump_of_split
  feeding_split_is_dump datagrams split progress f =
      let a = feeds_dump item_is some datagrams split.0 new_dump progress refl f in
      let d = dump_of_split item_is datagrams split.1 [] progress.messages a.0 a.1 in
      ((a.0, (d.0, d.1, d.2, a.4 split.1)), a.2, a.3)

  -- feeding the concatenated bytes as one datagram leads to the same progress
  pub feeding_whole : (datagrams : List (List ℕ)) → IsCompleteSplit datagrams
      → (progress : DumpProgress A) → FeedingAllLeadsTo item_is new_dump datagrams progress
      → FeedingAllLeadsTo item_is new_dump (concat datagrams ∷ []) progress
  feeding_whole datagrams split progress f =
      let all = feeding_split_is_dump datagrams split progress f in
      let step = feeds_by_reading item_is new_dump progress (concat datagrams) all.0.0 refl all.0.1
      all.1 all.2 in
      (progress, step, refl)

  -- feeding the same bytes in differently split datagrams leads to the same progress
  pub equal_feeds_of_splits : (datagrams others : List (List ℕ))
      → AreSplitsOfSameBytes datagrams others → (progress other : DumpProgress A)
      → FeedingAllLeadsTo item_is new_dump datagrams progress
      → FeedingAllLeadsTo item_is new_dump others other
      → progress ≡ other
  equal_feeds_of_splits datagrams others (split, cut, same) progress other f g =
      let a = feeding_split_is_dump datagrams split progress f in
      let b = feeding_split_is_dump others cut other g in
      let ends = datagram_leads_to_one_dump item_is one (concat others)
      (bytes-concatenation others cut.0) new_dump
      progress other a.0.0 b.0.0 (rw same at a.0.1) b.0.1 in
      let state : status_of_dump progress ≡ status_of_dump other = cc (a.1, b.1, ends.1) in
      λ i. record {
        messages = ends.0 i;
        state = (state i).0;
        error_number = (state i).1;
        is_interrupted = ends.2 i;
      }

  -- feeding datagrams with the same items leads to the same messages and state
  pub equal_feeds_of_items : (datagrams others : List (List ℕ))
      → AllByRecursion IsBytes datagrams → AllByRecursion IsBytes others
      → HaveSameItems item_is datagrams others
      → (progress other : DumpProgress A)
      → FeedingAllLeadsTo item_is new_dump datagrams progress
      → FeedingAllLeadsTo item_is new_dump others other
      → (progress.messages ≡ other.messages) × (progress.state ≡ other.state)
      × (progress.error_number ≡ other.error_number)
  equal_feeds_of_items datagrams others in_range fits same progress other f g =
      let a = feeds_dump item_is some datagrams in_range new_dump progress refl f in
      let b = feeds_dump item_is some others fits new_dump other refl g in
      let moved = equal_dumps item_is one datagrams others in_range same [] _ _ a.1 in
      let ends = one_dumps item_is one [] others fits progress.messages other.messages a.0 b.0
      moved b.1 in
      let state : status_of_dump progress ≡ status_of_dump other = cc (a.2, b.2, ends.1) in
      (ends.0, λ i. (state i).0, λ i. (state i).1)
