-- The listening sockets before the first end of a dump in a datagram.
use Rattle.std.proofs.Common.{◌≡◌, ◌≢◌, ℕ, ◌+◌, ◌*◌, ◌≤◌, inl, inr, List, [], ◌∷◌, ◌++◌, length}
use Rattle.std.proofs.Common.{refl, sym, ap, subst, ◌∙◌, arith, add-zero, length-append}
use Rattle.std.specs.Prelude.{Bool, true, false, count_by, cond, Option, Some, None, Result, Ok}
use Rattle.std.specs.Prelude.{Err}
use Rattle.std.specs.List.{AllByRecursion}
use Rattle.std.proofs.lemmas.List.Sums.{sum_by-append}
use Rattle.netlink_core.specs.Bytes.{IsBytes}
use Rattle.netlink_core.specs.declared.error.DecodeError.{DecodeError}
use Rattle.netlink_core.specs.Datagram.{StartsWithMessage}
use Rattle.netlink_core.specs.Header.{IsMessageError}
use Rattle.netlink_core.specs.Items.{Item, IsItemOf, AreItemsOf}
use Rattle.netlink_core.proofs.Items.{FoundItemsSoFar, error_is_only_item, no_items_yet}
use Rattle.netlink_core.proofs.Items.{next_item_found, items_with_next, no_items}
use Rattle.netlink_core.specs.DatagramWalk.{unread_messages}
use Rattle.netlink_packet_sock_diag.specs.declared.dump.views.DumpViews.{DumpViews}
use Rattle.netlink_packet_sock_diag.specs.PayloadViewModel.{PayloadView, payload_view_model}
use Rattle.netlink_packet_sock_diag.specs.Dump.{dump_end_at}
use Rattle.netlink_packet_sock_diag.specs.DumpWalk.{YieldsPayloadView}
use Rattle.netlink_packet_sock_diag.specs.Message.{Message, message_codec}
use Rattle.netlink_packet_sock_diag.specs.laws.Message.{message_laws}
use Rattle.netlink_core.specs.Errors.{map_ok}
use Rattle.sock_diag_examples.specs.Readme.{IsCountAtEnd, IsCounted, is_listening_reply}

-- `count` listening sockets are before the bytes that are left
pub record Counting (datagram left : List ℕ) (count : ℕ) : Type 0 where
  pub passed : List (Item Message)
  pub walk : FoundItemsSoFar (IsItemOf message_codec) datagram passed left
  pub go_on : AllByRecursion (λ item. dump_end_at item ≡ None) passed
  pub counted : count ≡ count_by is_listening_reply passed
  -- each message has at least sixteen bytes
  pub short : 16 * count + length left ≤ length datagram

pub counting_begins : (datagram : List ℕ) → Counting datagram datagram 0
counting_begins datagram = record {
  passed = [];
  walk = no_items_yet (IsItemOf message_codec) datagram;
  go_on = tt;
  counted = refl;
  short = omega arith;
}

-- a step of the iterator: it takes a message, or an error because the bytes left are not a message
pub data Step (left : List ℕ) (item : Item Message) (later : List ℕ) : Type 0 where
  message : (bytes : List ℕ) → StartsWithMessage left bytes later
      → IsItemOf message_codec bytes item
      → Step left item later
  no_message : (e : DecodeError) → item ≡ Err e → left ≢ [] → IsMessageError left e
      → Step left item later

-- an item of the iterator is a step
pub step_of : (old new : DumpViews) (item : Result PayloadView DecodeError)
    → YieldsPayloadView old (Some item) new
    → Step (unread_messages old.messages) (map_ok payload_view_model item)
    (unread_messages new.messages)
step_of old new item (inl (bytes, s, is)) = message bytes s is
step_of old new item (inr (e, is, some, error, none)) =
    no_message e (ap (map_ok payload_view_model) is) some error

go_on_push : (xs : List (Item Message)) (item : Item Message)
    → AllByRecursion (λ item. dump_end_at item ≡ None) xs → dump_end_at item ≡ None
    → AllByRecursion (λ item. dump_end_at item ≡ None) (xs ++ item ∷ [])
go_on_push [] item h is = (is, tt)
go_on_push (x ∷ xs) item h is = (h.0, go_on_push xs item h.1 is)

count_push : (xs : List (Item Message)) (item : Item Message)
    → count_by is_listening_reply (xs ++ item ∷ [])
    ≡ count_by is_listening_reply xs + cond (is_listening_reply item) 1 0
count_push xs item = sum_by-append (λ x. cond (is_listening_reply x) 1 0) xs (item ∷ [])
    ∙ omega arith

shorter : (left bytes later : List ℕ) → StartsWithMessage left bytes later
    → 16 + length later ≤ length left
shorter left bytes later s = omega (arith, s.whole.0, simp length-append at (ap length s.parts))

at_most_one : (b : Bool) → cond b 1 0 ≤ 1
at_most_one true = omega arith
at_most_one false = omega arith

-- the count after an item that does not end the dump
pub counts_on : (datagram left later : List ℕ) (count : ℕ) (item : Item Message)
    → Counting datagram left count → Step left item later → dump_end_at item ≡ None
    → Counting datagram later (count + cond (is_listening_reply item) 1 0)
counts_on datagram left later count item c (message bytes s is) plain = record {
  passed = c.passed ++ item ∷ [];
  walk = next_item_found (IsItemOf message_codec) datagram left later bytes c.passed item c.walk s
      is;
  go_on = go_on_push c.passed item c.go_on plain;
  counted = ap (λ n. n + cond (is_listening_reply item) 1 0) c.counted
      ∙ sym (count_push c.passed item);
  short = omega (arith, c.short, shorter left bytes later s, at_most_one (is_listening_reply item));
}
counts_on datagram left later count item c (no_message e is some error) plain =
    let no : Some (Err e) ≡ None = sym (ap dump_end_at is) ∙ plain in cc

-- the item is counted, or not
pub counts_one : (datagram left later : List ℕ) (count : ℕ) (item : Item Message)
    → Counting datagram left count → Step left item later → dump_end_at item ≡ None
    → is_listening_reply item ≡ true
    → Counting datagram later (count + 1)
counts_one datagram left later count item c step plain is =
    subst (λ b. Counting datagram later (count + cond b 1 0)) is
    (counts_on datagram left later count item c step plain)

pub counts_none : (datagram left later : List ℕ) (count : ℕ) (item : Item Message)
    → Counting datagram left count → Step left item later → dump_end_at item ≡ None
    → is_listening_reply item ≡ false
    → Counting datagram later count
counts_none datagram left later count item c step plain is =
    subst (λ n. Counting datagram later n) (add-zero count)
    (subst (λ b. Counting datagram later (count + cond b 1 0)) is
    (counts_on datagram left later count item c step plain))

-- the count is returned at an item that ends the dump
pub counts_to : (datagram left later : List ℕ) (count : ℕ) (item : Item Message)
    (answer : Result (Option ℕ) DecodeError) → IsBytes datagram → Counting datagram left count
    → Step left item later
    → ((more : List (Item Message)) → IsCountAtEnd count (item ∷ more) answer)
    → IsCounted datagram answer
counts_to datagram left later count item answer in_range c (message bytes s is) ends =
    let all = items_with_next message_codec message_laws.is_total datagram left later bytes c.passed
    item
    in_range c.walk s is in
    record {
      passed = c.passed;
      later = item ∷ all.0;
      are_items = all.1;
      no_end_before = c.go_on;
      is_count = subst (λ n. IsCountAtEnd n (item ∷ all.0) answer) c.counted (ends all.0);
    }
counts_to datagram left later count item answer in_range c (no_message e is some error) ends =
    record {
      passed = c.passed;
      later = item ∷ [];
      are_items = c.walk.items (item ∷ []) (subst (λ (i : Item Message).
          AreItemsOf (IsItemOf message_codec) left (i ∷ []))
          (sym is) (error_is_only_item (IsItemOf message_codec) left e some error));
      no_end_before = c.go_on;
      is_count = subst (λ n. IsCountAtEnd n (item ∷ []) answer) c.counted (ends []);
    }

-- the count is returned if nothing is left
pub counts_all : (datagram left : List ℕ) (count : ℕ) → Counting datagram left count → left ≡ []
    → IsCounted datagram (Ok (Some count))
counts_all datagram left count c none = record {
  passed = c.passed;
  later = [];
  are_items = c.walk.items [] (subst (λ (b : List ℕ).
      AreItemsOf (IsItemOf message_codec) b []) (sym none) (no_items (IsItemOf message_codec)));
  no_end_before = c.go_on;
  is_count = ap (λ n. Ok (Some n)) c.counted;
}
