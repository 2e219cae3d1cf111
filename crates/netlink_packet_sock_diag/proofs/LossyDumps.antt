-- If a dump ends without an error, a `LossyDump` keeps the same messages. The errors at which a
-- `LossyDump` ends are those of bytes that are not a message.
use Rattle.std.proofs.Common.{◌≡◌, ℕ, List, [], ◌∷◌, ◌++◌, map, refl, arith}
use Rattle.std.specs.Prelude.{Option, Some, None, Result, Ok, Err}
use Rattle.std.specs.List.{AllZip}
use Rattle.std.proofs.lemmas.List.{append-nil, map-append}
use Rattle.netlink_core.specs.Codec.{Codec, KeepsCodecLaws}
use Rattle.netlink_core.specs.Datagram.{SplitsIntoMessages}
use Rattle.netlink_core.specs.declared.error.DecodeError.{DecodeError}
use Rattle.netlink_core.specs.declared.message.NetlinkPayload.TheVariants.{InnerMessage, Noop}
use Rattle.netlink_core.specs.Header.{IsMessageError}
use Rattle.netlink_core.specs.Items.{Item, IsItemOf}
use Rattle.netlink_core.proofs.Items.{items_by_messages, one_list_by}
use Rattle.netlink_packet_sock_diag.specs.Dump.{DumpOfDatagrams, DumpStatus}
use Rattle.netlink_packet_sock_diag.specs.Lossy.{HasLossyEntry, as_lossy_entries}
use Rattle.netlink_packet_sock_diag.specs.laws.DumpEntry.{entry_of_item, is_entry, one_entry}
use Rattle.netlink_packet_sock_diag.specs.laws.DumpEntry.{entries_determine_items}
use Rattle.netlink_packet_sock_diag.proofs.DumpRows.{OneList, SomeItems, dump_is, dump_of_one}
use Rattle.netlink_packet_sock_diag.proofs.DumpRows.{error_after_messages, one_item_of, reach}

module _ {A : Type 0} where
  reach_entries : (items : List (Item A)) (end : Option DecodeError) (before after : List A)
      (s : DumpStatus) → reach before (items ++ error_after_messages end) ≡ (after, Ok s)
      → reach (as_lossy_entries before) (map entry_of_item items ++ error_after_messages end)
      ≡ (as_lossy_entries after, Ok s)
  reach_entries (Ok (InnerMessage v) ∷ items) end before after s e =
      grind (arith, map-append, reach_entries items end (before ++ v ∷ []) after s e)
  reach_entries (Ok Noop ∷ items) end before after s e =
      grind (arith, append-nil, reach_entries items end before after s)
  reach_entries items end before after s e = grind arith

module _ (C : Codec ℕ) where
  zip_entries : (bytes : List ℕ) (messages : List (List ℕ)) (end : Option DecodeError)
      → SplitsIntoMessages bytes messages end → (carried : List (Item C.Value))
      → AllZip (IsItemOf C) messages carried
      → AllZip (HasLossyEntry C) messages (map entry_of_item carried)
  zip_entries bytes [] end cut [] each = tt
  zip_entries bytes (m ∷ messages) end cut (x ∷ xs) each =
      grind (
        arith,
        is_entry C m x cut.1.whole each.0,
        zip_entries cut.0 messages end cut.2 xs each.1,
      )
  zip_entries bytes messages end cut carried each = grind arith

  -- the entries for a datagram whose dump ends without an error
  pub lossy_entries_of_dump : (datagram : List ℕ) (before after : List C.Value) (s : DumpStatus)
      → DumpOfDatagrams (IsItemOf C) (before, datagram ∷ []) (after, Ok s)
      → DumpOfDatagrams (HasLossyEntry C) (as_lossy_entries before, datagram ∷ [])
      (as_lossy_entries after, Ok s)
  lossy_entries_of_dump datagram before after s dump =
      let one = (dump_of_one (IsItemOf C) before datagram after (Ok s)).1 dump in
      let are = one.1 in
      let entries = map entry_of_item are.2 ++ error_after_messages are.1 in
      let went = (dump_is before after one.0 (Ok s)).0 one.2 in
      let told = zip_entries datagram are.0 are.1 are.3 are.2 are.4 in
      (dump_of_one (HasLossyEntry C) (as_lossy_entries before) datagram (as_lossy_entries after)
      (Ok s)).0 (
        entries,
        (are.0, are.1, map entry_of_item are.2, are.3, told, refl),
        (dump_is (as_lossy_entries before) (as_lossy_entries after) entries (Ok s)).1
            (reach_entries are.2 are.1 before after s (rw are.5 at went)),
      )

  -- ---- the errors

  -- an error that ends a `LossyDump` is the error of bytes that are not a message
  error_of_rest_in : (bytes : List ℕ) (messages : List (List ℕ)) (end : Option DecodeError)
      (carried : List (Item (Result C.Value DecodeError))) → SplitsIntoMessages bytes messages end
      → AllZip (HasLossyEntry C) messages carried
      → (before after : List (Result C.Value DecodeError)) (e : DecodeError)
      → reach before (carried ++ error_after_messages end) ≡ (after, Err e)
      → (rest : List ℕ) × IsMessageError rest e
  error_of_rest_in bytes [] None [] cut each before after e went = grind arith
  error_of_rest_in bytes [] (Some f) [] cut each before after e went =
      let same : f ≡ e = grind arith in (bytes, rw same at cut.1)
  error_of_rest_in bytes (m ∷ messages) end (Ok (InnerMessage v) ∷ xs) cut each before after e
      went =
      error_of_rest_in cut.0 messages end xs cut.2 each.1 _ after e went
  error_of_rest_in bytes (m ∷ messages) end (Ok Noop ∷ xs) cut each before after e went =
      error_of_rest_in cut.0 messages end xs cut.2 each.1 _ after e went
  error_of_rest_in bytes messages end carried cut each before after e went = grind arith

  pub lossy_dump_error : (datagram : List ℕ) (before after : List (Result C.Value DecodeError))
      (e : DecodeError) → DumpOfDatagrams (HasLossyEntry C) (before, datagram ∷ []) (after, Err e)
      → (rest : List ℕ) × IsMessageError rest e
  lossy_dump_error datagram before after e dump =
      let one = (dump_of_one (HasLossyEntry C) before datagram after (Err e)).1 dump in
      let are = one.1 in
      let went = (dump_is before after one.0 (Err e)).0 one.2 in
      error_of_rest_in datagram are.0 are.1 are.2 are.3 are.4 before after e (rw are.5 at went)

-- ---- a datagram has exactly one list of entries

module _ (C : Codec ℕ) (laws : KeepsCodecLaws C) where
  pub some_entries : SomeItems (HasLossyEntry C)
  some_entries = items_by_messages (HasLossyEntry C) (entries_determine_items C laws).has_item

  pub one_list_of_entries : OneList (HasLossyEntry C)
  one_list_of_entries = one_list_by (HasLossyEntry C) (one_entry C (one_item_of C laws))
