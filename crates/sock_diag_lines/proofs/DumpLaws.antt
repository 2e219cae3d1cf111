-- There is one dump over datagrams, how it grows by a datagram and by a message, and its answer.
use Rattle.std.proofs.Common.{◌≡◌, ◌≢◌, ◌⊎◌, inl, inr, ℕ, List, [], ◌∷◌, ◌++◌, length, map, take}
use Rattle.std.proofs.Common.{drop, Some, None, true, codes, decimal, Result, Ok, Err, refl, sym}
use Rattle.std.proofs.Common.{ap, subst, ◌∙◌, append_assoc, arith}
use Rattle.std.proofs.lemmas.List.{append-nil, drop-append-le, drop_all, flat_map_more}
use Rattle.std.proofs.lemmas.List.{length-map, map-append, take-append-le, take_all}
use Rattle.std.proofs.lemmas.List.Concat.{flat_map-append}
use Rattle.std.specs.List.{AllByRecursion, AllZip, concat, flat_map}
use Rattle.netlink_core.specs.Bytes.{IsBytes}
use Rattle.netlink_core.specs.declared.error.DecodeError.{DecodeError}
use Rattle.netlink_core.specs.Errors.{map_ok}
use Rattle.netlink_core.specs.Datagram.{StartsWithMessage}
use Rattle.netlink_core.specs.Header.{IsMessageError}
use Rattle.netlink_core.specs.NetlinkMessage.{Payload}
use Rattle.netlink_core.specs.Items.{IsItemOf, AreItemsOf}
use Rattle.netlink_core.proofs.Items.{FoundItemsSoFar, error_is_only_item, items_of}
use Rattle.netlink_core.proofs.Items.{items_with_next, next_item_found, no_items, no_items_yet}
use Rattle.netlink_core.proofs.Items.{one_list, one_result_of_message, zip_append}
use Rattle.netlink_packet_sock_diag.specs.declared.dump.DumpState.{DumpState}
use Rattle.netlink_packet_sock_diag.specs.declared.dump.DumpState.TheVariants.{Reading, Done, Error}
use Rattle.netlink_packet_sock_diag.specs.declared.dump.DumpState.TheVariants.{Overrun, Failed}
use Rattle.netlink_packet_sock_diag.specs.Dump.{AreCompleteExceptLast, DumpOfItems, DumpStatus}
use Rattle.netlink_packet_sock_diag.specs.Dump.{HaveSameItems, concatenation, dump_end_at}
use Rattle.netlink_packet_sock_diag.specs.Dump.{inner_message_list}
use Rattle.netlink_packet_sock_diag.specs.Message.{Message, message_codec}
use Rattle.netlink_packet_sock_diag.specs.laws.Message.{message_laws}
use Rattle.netlink_packet_sock_diag.specs.PayloadViewModel.{PayloadView, payload_view_model}
use Rattle.netlink_packet_sock_diag.proofs.DumpRows.{DumpEndsAt, dump_of_split, has_dump}
use Rattle.netlink_packet_sock_diag.proofs.DumpRows.{dump_of_joined, items_of_each, one_dumps}
use Rattle.netlink_packet_sock_diag.proofs.DumpRows.{equal_dumps, split_of_dump, reading_status}
use Rattle.netlink_packet_sock_diag.proofs.DumpRows.{reading_has_no_error_number}
use Rattle.sock_diag_lines.specs.declared.dump_line.ReadDump.{ReadDump}
use Rattle.sock_diag_lines.specs.AnswerText.{IsAnswerToValue}
use Rattle.sock_diag_lines.specs.DumpLine.{DumpOutcome, IsDumpAnswer, IsDumpOf, IsWritableDump}
use Rattle.sock_diag_lines.specs.DumpLine.{dump_state_text, dump_text}
use Rattle.sock_diag_lines.specs.HexField.{IsHexField, hex_field_of}
use Rattle.sock_diag_lines.specs.private.ReadDump.{AnswersDump, FeedsOneDatagram, HasMessages}
use Rattle.sock_diag_lines.specs.private.ReadDump.{IsReadDump}
use Rattle.sock_diag_lines.specs.private.ReadDump.{shown_end, state_or_error, texts_in}
use Rattle.sock_diag_lines.proofs.Deciding.{each_or_not, message_fits_or_not}
use Rattle.sock_diag_lines.proofs.FieldLaws.{IsBytes-field}
use Rattle.sock_diag_lines.proofs.AnswerTexts.{one_answer_to_value}
use Rattle.sock_diag_lines.proofs.AnswerTexts.{value_has_answer}

-- each datagram has items
pub each_datagram_has_items : (b : List ℕ) → IsBytes b
    → (items : List (Result (Payload Message) DecodeError))
    × AreItemsOf (IsItemOf message_codec) b items
each_datagram_has_items = items_of message_codec message_laws.is_total

-- each datagram has at most one list of items
one_items : (b : List ℕ) → IsBytes b → (xs ys : List (Result (Payload Message) DecodeError))
    → AreItemsOf (IsItemOf message_codec) b xs → AreItemsOf (IsItemOf message_codec) b ys → xs ≡ ys
one_items = one_list message_codec (one_result_of_message message_codec message_laws)

-- datagrams have at most one dump
one_dump_outcome : (datagrams : List (List ℕ)) → AllByRecursion IsBytes datagrams
    → (d e : DumpOutcome)
    → IsDumpOf datagrams d → IsDumpOf datagrams e → d ≡ e
one_dump_outcome datagrams in_range d e dump also =
    let same = one_dumps (IsItemOf message_codec) one_items [] datagrams in_range d.0 e.0 d.1 e.1
    dump
    also in
    λ i. (same.0 i, same.1 i)

-- ---- one answer

-- the bytes of hex fields are in range
pub fields_in_range : (fields datagrams : List (List ℕ)) → AllZip IsHexField fields datagrams
    → AllByRecursion IsBytes datagrams
fields_in_range [] [] each = tt
fields_in_range [] (d ∷ datagrams) each = absurd each
fields_in_range (f ∷ fields) [] each = absurd each
fields_in_range (f ∷ fields) (d ∷ datagrams) each =
    (IsBytes-field f d each.0, fields_in_range fields datagrams each.1)

-- datagrams have an answer
pub has_dump_text : (datagrams : List (List ℕ)) → AllByRecursion IsBytes datagrams → (text : List ℕ)
    × IsDumpAnswer datagrams text
has_dump_text datagrams in_range =
    let parts = items_of_each (IsItemOf message_codec) each_datagram_has_items datagrams in_range in
    let dump = has_dump [] (concatenation parts.0) in
    let outcome : DumpOutcome = (dump.0, dump.1) in
    let answer = value_has_answer (dump_text outcome) (each_or_not _ message_fits_or_not dump.0) in
    (answer.0, (outcome, (parts.0, parts.1, dump.2), answer.1))

-- datagrams have at most one answer
pub one_dump_text : (datagrams : List (List ℕ)) → AllByRecursion IsBytes datagrams → (x y : List ℕ)
    → IsDumpAnswer datagrams x → IsDumpAnswer datagrams y → x ≡ y
one_dump_text datagrams in_range x y (d, is, answer) (e, also, other) =
    one_answer_to_value (dump_text d) x y answer
    (subst (λ (o : DumpOutcome). IsAnswerToValue (IsWritableDump o) (dump_text o) y)
    (one_dump_outcome datagrams in_range e d also is) other)

-- datagrams with the same concatenated items have the same answer
pub answers_same_items : (datagrams others : List (List ℕ))
    → AllByRecursion IsBytes datagrams → HaveSameItems (IsItemOf message_codec) datagrams others
    → (text : List ℕ) → IsDumpAnswer datagrams text → IsDumpAnswer others text
answers_same_items datagrams others in_range same text (d, is, answer) = (
  d,
  equal_dumps (IsItemOf message_codec) one_items datagrams others in_range same [] d.0 d.1 is,
  answer,
)

-- another split of the same bytes has the same answer
pub answers_split : (datagrams others : List (List ℕ)) → AllByRecursion IsBytes others
    → AreCompleteExceptLast datagrams → AreCompleteExceptLast others
    → concat datagrams ≡ concat others
    → (text : List ℕ) → IsDumpAnswer datagrams text → IsDumpAnswer others text
answers_split datagrams others in_range split cut same text (d, is, answer) = (
  d,
  split_of_dump (IsItemOf message_codec) each_datagram_has_items one_items others in_range cut []
      d.0 d.1 (rw same at (dump_of_split (IsItemOf message_codec) datagrams split [] d.0 d.1 is)),
  answer,
)

-- ---- the end of a dump

-- the end of a dump that has not ended has no error number
reading_end : (later : List (Result (Payload Message) DecodeError))
    (end : Result DumpStatus DecodeError) → DumpEndsAt later end → state_or_error end ≡ Ok Reading
    → end ≡ Ok reading_status
reading_end later (Ok status) ends is =
    let reading : status.0 ≡ Reading = cc in
    ap Ok (reading_has_no_error_number later status ends reading)
reading_end later (Err error) ends is = cc

-- an answer does not show the error number of the end
shown_text : (end : Result DumpStatus DecodeError)
    → dump_state_text (map_ok (λ (state : DumpState). (state, None)) (state_or_error end))
    ≡ dump_state_text end
shown_text (Ok (Reading, number)) = refl
shown_text (Ok (Done, number)) = refl
shown_text (Ok (Error, number)) = refl
shown_text (Ok (Overrun, number)) = refl
shown_text (Ok (Failed, number)) = refl
shown_text (Err error) = refl

-- ---- the messages of a dump

-- a new dump
pub reads_no_datagrams : (dump : ReadDump) → dump.end ≡ Ok Reading → dump.is_writable ≡ true
    → dump.lengths.items ≡ [] → dump.bytes.items ≡ [] → IsReadDump [] dump
reads_no_datagrams dump reading writable none empty = (
  ([], Ok reading_status),
  ([], tt, ([], [], refl, tt, refl, refl)),
  (rw writable (tt, none, empty), reading),
)

-- what holds for each element and for one more
all_with_last : {A : Type 0} (P : A → Type 0) (xs : List A) (x : A) → AllByRecursion P xs → P x
    → AllByRecursion P (xs ++ x ∷ [])
all_with_last P [] x each is = (is, tt)
all_with_last P (y ∷ xs) x each is = (each.0, all_with_last P xs x each.1 is)

-- a writable message that follows writable ones
pub message_is_added : (old new : ReadDump) (message : Message) → old.is_writable ≡ true
    → new.is_writable ≡ true → message_codec.is_writable message
    → new.lengths.items ≡ old.lengths.items ++ length (message_codec.serialized message) ∷ []
    → new.bytes.items ≡ old.bytes.items ++ message_codec.serialized message
    → (messages : List Message) → HasMessages old messages
    → HasMessages new (messages ++ message ∷ [])
message_is_added old new message before after fits counted added messages has =
    let all = rw before at has in
    rw after (
      all_with_last _ messages message all.0 fits,
      rw (counted, all.1, map-append) refl,
      rw (added, all.2) (flat_map_more message_codec.serialized [] messages message),
    )

-- the first of two concatenated lists, and the second
take_first : (a b : List ℕ) → take (length a) (a ++ b) ≡ a
take_first a b = take-append-le (length a) a b (omega arith) ∙ take_all (length a) a (omega arith)

drop_first : (a b : List ℕ) → drop (length a) (a ++ b) ≡ b
drop_first a b = drop-append-le (length a) a b (omega arith)
    ∙ ap (λ (front : List ℕ). front ++ b) (drop_all (length a) a (omega arith))

-- the texts of the lengths and bytes of messages are the texts of these messages
texts_of_messages : (messages : List Message)
    → texts_in (map (λ message. length (message_codec.serialized message)) messages)
    (flat_map message_codec.serialized messages)
    ≡ flat_map (λ message. 32 ∷ hex_field_of (message_codec.serialized message)) messages
texts_of_messages [] = refl
texts_of_messages (message ∷ messages) =
    let bytes = message_codec.serialized message in
    let later = flat_map message_codec.serialized messages in
    rw (take_first bytes later, drop_first bytes later, texts_of_messages messages) refl

-- what is appended for a dump, in the order of the answer
pub dump_text_after : (old state count texts : List ℕ)
    → old ++ codes "ok " ++ state ++ 32 ∷ [] ++ count ++ texts
    ≡ old ++ (codes "ok " ++ (state ++ 32 ∷ count ++ texts))
dump_text_after old state count texts = simp append_assoc

-- the answer to a dump whose messages are all writable
pub texts_answer_dump : (dump : ReadDump) → dump.is_writable ≡ true → AnswersDump dump (codes "ok "
    ++ (dump_state_text (shown_end dump) ++ 32 ∷ decimal (length dump.lengths.items)
    ++ texts_in dump.lengths.items dump.bytes.items))
texts_answer_dump dump writable outcome has =
    let all = rw writable at has.0 in
    let end : dump_state_text (shown_end dump) ≡ dump_state_text outcome.1 =
    ap (λ (end : Result DumpState DecodeError).
    dump_state_text (map_ok (λ (state : DumpState). (state, None)) end)) has.1
    ∙ shown_text outcome.1 in
    inl (all.0, rw (end, all.1, all.2, length-map, texts_of_messages) refl)

-- ---- one more datagram

-- `old` has read no message of the datagram; `new` has read and serialized the messages before
-- `rest`, and none of them ended the dump
pub record ReadsSoFar (datagram rest : List ℕ) (old new : ReadDump) : Type 0 where
  pub passed : List (Result (Payload Message) DecodeError)
  pub found : FoundItemsSoFar (IsItemOf message_codec) datagram passed rest
  pub plain : AllByRecursion (λ one. dump_end_at one ≡ None) passed
  pub reading : new.end ≡ Ok Reading
  pub serialized : (messages : List Message) → HasMessages old messages
      → HasMessages new (messages ++ flat_map inner_message_list passed)

pub reads_no_messages : (datagram : List ℕ) (dump : ReadDump) → dump.end ≡ Ok Reading
    → ReadsSoFar datagram datagram dump dump
reads_no_messages datagram dump reading = record {
  passed = [];
  found = no_items_yet (IsItemOf message_codec) datagram;
  plain = tt;
  reading = reading;
  serialized = λ messages has. rw append-nil has;
}

-- one more datagram continues a dump that is being read, and leaves any other unchanged
one_more_datagram : (datagrams : List (List ℕ)) (datagram : List ℕ) (old new : DumpOutcome)
    (items : List (Result (Payload Message) DecodeError))
    → AreItemsOf (IsItemOf message_codec) datagram items → IsDumpOf datagrams old
    → ((old.1 ≡ Ok reading_status) × DumpOfItems (old.0, items) (new.0, new.1))
    ⊎ ((old.1 ≢ Ok reading_status) × (new.0 ≡ old.0) × (new.1 ≡ old.1))
    → IsDumpOf (datagrams ++ datagram ∷ []) new
one_more_datagram datagrams datagram old new items are (parts, each, dump) next =
    let all = zip_append (AreItemsOf (IsItemOf message_codec)) datagrams (datagram ∷ []) parts
    (items ∷ []) each (are, tt) in (
      parts ++ items ∷ [],
      all,
      rw (flat_map-append, append-nil)
          (dump_of_joined [] old.0 new.0 old.1 new.1 (concatenation parts) items dump next),
    )

-- a dump that has ended is unchanged
pub ended_dump_is_unchanged : (dump : ReadDump) (datagram : List ℕ) → IsBytes datagram
    → dump.end ≢ Ok Reading → FeedsOneDatagram dump datagram dump
ended_dump_is_unchanged dump datagram in_range over datagrams (outcome, is, has) =
    let items = each_datagram_has_items datagram in_range in (
      outcome,
      one_more_datagram datagrams datagram outcome outcome items.0 items.1 is
          (inr (λ reading. over (has.1 ∙ ap state_or_error reading), refl, refl)),
      has,
    )

-- the dump with this end
abbrev with_end : ReadDump → Result DumpState DecodeError → ReadDump
with_end dump end = record {
  end = end;
  is_writable = dump.is_writable;
  lengths = dump.lengths;
  bytes = dump.bytes;
  buffer = dump.buffer;
}

-- a call of `next` on the iterator over the bytes `rest` yields this item, and the bytes `next` are
-- left
abbrev YieldsItem : List ℕ → Result PayloadView DecodeError → List ℕ → Type 0
YieldsItem rest item next = ((message : List ℕ) × StartsWithMessage rest message next
    × IsItemOf message_codec message (map_ok payload_view_model item))
    ⊎ ((e : DecodeError) × (item ≡ Err e) × (rest ≢ []) × IsMessageError rest e × (next ≡ []))

module _ {datagram rest : List ℕ} {old dump : ReadDump}
    (so_far : ReadsSoFar datagram rest old dump) where
  -- the dump has read the datagram up to an item that ends the dump, or to the end of the datagram
  datagram_is_read : (new : ReadDump) (later : List (Result (Payload Message) DecodeError))
      (end : Result DumpStatus DecodeError) → old.end ≡ Ok Reading
      → AreItemsOf (IsItemOf message_codec) datagram (so_far.passed ++ later)
      → DumpEndsAt later end → new.end ≡ state_or_error end
      → ((messages : List Message) → HasMessages dump messages → HasMessages new messages)
      → FeedsOneDatagram old datagram new
  datagram_is_read new later end reading are ends is same datagrams (outcome, of, has) =
      let on = reading_end of.2.1 outcome.1 of.2.5 (sym has.1 ∙ reading) in
      let next : DumpOutcome = (outcome.0 ++ flat_map inner_message_list so_far.passed, end) in (
        next,
        one_more_datagram datagrams datagram outcome next (so_far.passed ++ later) are of
            (inl (on, (so_far.passed, later, refl, so_far.plain, refl, ends))),
        (same next.0 (so_far.serialized outcome.0 has.0), is),
      )

  -- no message is left
  pub reads_all_messages : rest ≡ [] → old.end ≡ Ok Reading → FeedsOneDatagram old datagram dump
  reads_all_messages none reading =
      datagram_is_read dump [] (Ok reading_status) reading
      (so_far.found.items [] (rw none (no_items (IsItemOf message_codec)))) refl so_far.reading
      (λ messages has. has)

  -- an item that ends the dump
  pub ends_dump : (item : Result PayloadView DecodeError) (next : List ℕ)
      (end : Result DumpStatus DecodeError) → IsBytes datagram → old.end ≡ Ok Reading
      → YieldsItem rest item next → dump_end_at (map_ok payload_view_model item) ≡ Some end
      → FeedsOneDatagram old datagram (with_end dump (state_or_error end))
  ends_dump item next end in_range reading (inl (message, starts, is)) ends =
      let left = items_with_next message_codec message_laws.is_total datagram rest next message
      so_far.passed _ in_range so_far.found starts is in
      datagram_is_read (with_end dump (state_or_error end))
      (map_ok payload_view_model item ∷ left.0) end reading left.1 ends refl (λ messages has. has)
  ends_dump item next end in_range reading (inr (error, is, some, framing, none)) ends =
      datagram_is_read (with_end dump (state_or_error end)) (Err error ∷ []) end reading
      (so_far.found.items (Err error ∷ [])
      (error_is_only_item (IsItemOf message_codec) rest error some framing))
      (rw is at ends) refl (λ messages has. has)

  -- a message that does not end the dump
  pub reads_one_message : (payload : PayloadView) (next : List ℕ) (new : ReadDump)
      → YieldsItem rest (Ok payload) next
      → dump_end_at (Ok (payload_view_model payload)) ≡ None → new.end ≡ dump.end
      → ((messages : List Message) → HasMessages dump messages
      → HasMessages new (messages ++ inner_message_list (Ok (payload_view_model payload))))
      → ReadsSoFar datagram next old new
  reads_one_message payload next new (inl (message, starts, is)) plain same adds =
      let item : Result (Payload Message) DecodeError = Ok (payload_view_model payload) in
      record {
        passed = so_far.passed ++ item ∷ [];
        found = next_item_found (IsItemOf message_codec) datagram rest next message so_far.passed
            item so_far.found starts is;
        plain = all_with_last _ so_far.passed item so_far.plain plain;
        reading = same ∙ so_far.reading;
        serialized = λ messages has. subst (HasMessages new)
            (flat_map_more inner_message_list messages so_far.passed item)
            (adds _ (so_far.serialized messages has));
      }
  reads_one_message payload next new (inr (error, is, some, framing, none)) plain same adds = cc
