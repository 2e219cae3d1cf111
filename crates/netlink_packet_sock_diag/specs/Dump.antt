-- The messages that a dump keeps of the items of its datagrams, and the end of the dump.
use Rattle.std.specs.Prelude.{◌≡◌, ◌%◌, length, ℕ, ℤ, List, [], ◌∷◌, ◌++◌, ⊤, ◌⊎◌, Option, Some}
use Rattle.std.specs.Prelude.{None, MatchOption, Result, Ok, Err, slice_get}
use Rattle.std.specs.List.{AllByRecursion, AllZip, concat, flat_map}
use Rattle.netlink_core.specs.Bytes.{IsBytes}
use Rattle.netlink_core.specs.declared.error.DecodeError.{DecodeError}
use Rattle.netlink_core.specs.Datagram.{SplitsIntoMessages}
use Rattle.netlink_core.specs.declared.message.NetlinkPayload.TheVariants as payload
use Rattle.netlink_core.specs.NetlinkMessage.{leading_error_number}
use Rattle.netlink_core.specs.Items.{Item, AreItemsOf}
use Rattle.netlink_packet_sock_diag.specs.declared.dump.DumpState.{DumpState}
use Rattle.netlink_packet_sock_diag.specs.declared.dump.DumpState.TheVariants.{Reading, Done, Error}
use Rattle.netlink_packet_sock_diag.specs.declared.dump.DumpState.TheVariants.{Overrun}

-- the state of a dump (`.0`), and the error number (`.1`) of the NLMSG_DONE or NLMSG_ERROR that
-- ended it: `None` if no such message ended it, or if the message has no number
abbrev pub DumpStatus : Type 0
DumpStatus = DumpState × Option ℤ

-- the concatenation of lists of any type, such as lists of items; `concat` of the kit is for lists
-- of numbers only, such as bytes
abbrev pub concatenation : {A : Type 0} → List (List A) → List A
concatenation lists = flat_map (λ list. list) lists

-- `A` is the type of inner messages. An `Item A` is `Ok` and the payload of a message, or `Err` and
-- its decode error. `payload.Done`, `payload.Error` and `payload.Overrun` are payloads; `Done`,
-- `Error`, `Overrun` and `Reading` are states of a dump.
module _ {A : Type 0} where
  -- the inner message of an item, as a list of one or no message
  abbrev pub inner_message_list : Item A → List A
  inner_message_list (Ok (payload.InnerMessage value)) = value ∷ []
  inner_message_list _ = []

  -- how an item ends a dump: with a state and an error number, or with a decode error; `None` if
  -- the item is an inner message or NLMSG_NOOP, which do not end a dump
  abbrev pub dump_end_at : Item A → Option (Result DumpStatus DecodeError)
  dump_end_at (Ok (payload.Done given)) = Some (Ok (Done, leading_error_number given))
  dump_end_at (Ok (payload.Error given)) = Some (Ok (Error, leading_error_number given))
  dump_end_at (Ok (payload.Overrun given)) = Some (Ok (Overrun, None))
  dump_end_at (Err e) = Some (Err e)
  dump_end_at _ = None

  -- `DumpOfItems (before, items) (after, end)`: a dump with the messages `before` that reads these
  -- items has then the messages `after` and the end `end`. The inner messages up to the first item
  -- that ends the dump are appended to `before`, and `end` is what `dump_end_at` returns for that
  -- item. If no item ends the dump, `end` is `Ok (Reading, None)`: the dump is still being read.
  -- For example, of the items m, NLMSG_NOOP, n, NLMSG_OVERRUN, k, where m, n and k are inner
  -- messages, m and n are appended, and `end` is `Ok (Overrun, None)`.
  abbrev pub DumpOfItems : List A × List (Item A) → List A × Result DumpStatus DecodeError → Type 0
  DumpOfItems (before, items) (after, end) =
      (passed later : List (Item A)) × (items ≡ passed ++ later)
      × AllByRecursion (λ item. dump_end_at item ≡ None) passed
      × (after ≡ before ++ flat_map inner_message_list passed)
      × MatchOption (slice_get later 0) (end ≡ Ok (Reading, None))
      (λ item. dump_end_at item ≡ Some end)

  -- `DumpOfDatagrams item_is (before, datagrams) (after, end)`: a dump with the messages `before`
  -- that reads these datagrams has then the messages `after` and the end `end`. Each datagram has
  -- its list of items (`AreItemsOf item_is`, where `item_is` relates a message to its item), and
  -- the dump reads the concatenation of these lists.
  abbrev pub DumpOfDatagrams : (List ℕ → Item A → Type 0) → List A × List (List ℕ)
      → List A × Result DumpStatus DecodeError → Type 0
  DumpOfDatagrams item_is (before, datagrams) (after, end) = (items : List (List (Item A)))
      × AllZip (AreItemsOf item_is) datagrams items
      × DumpOfItems (before, concatenation items) (after, end)

  -- `HaveSameItems item_is datagrams others`: the items of `datagrams`, concatenated, are those of
  -- `others`. The number of datagrams may differ, and so may bytes that no item depends on:
  -- sequence numbers, port ids and flags of headers, the padding of messages, the payload of
  -- NLMSG_NOOP, and ignored bits of inner messages.
  abbrev pub HaveSameItems : (List ℕ → Item A → Type 0) → List (List ℕ) → List (List ℕ) → Type 0
  HaveSameItems item_is datagrams others = (items other_items : List (List (Item A)))
      × AllZip (AreItemsOf item_is) datagrams items
      × AllZip (AreItemsOf item_is) others other_items
      × (concatenation items ≡ concatenation other_items)

-- each datagram except the last consists of complete messages with all their padding: it splits
-- into messages without an error (`None`), and its length is a multiple of 4
abbrev pub AreCompleteExceptLast : List (List ℕ) → Type 0
AreCompleteExceptLast [] = ⊤
AreCompleteExceptLast (datagram ∷ later) = ((later ≡ []) ⊎ ((messages : List (List ℕ))
    × SplitsIntoMessages datagram messages None × (length datagram % 4 ≡ 0)))
    × AreCompleteExceptLast later

-- The datagrams are byte strings, and each except the last consists of complete messages with all
-- their padding.
abbrev pub IsCompleteSplit : List (List ℕ) → Type 0
IsCompleteSplit datagrams = AllByRecursion IsBytes datagrams × AreCompleteExceptLast datagrams

-- `AreSplitsOfSameBytes datagrams others`: two ways to split the same bytes into datagrams; in
-- each, every datagram except the last consists of complete messages with all their padding
abbrev pub AreSplitsOfSameBytes : List (List ℕ) → List (List ℕ) → Type 0
AreSplitsOfSameBytes datagrams others = IsCompleteSplit datagrams × IsCompleteSplit others
    × (concat datagrams ≡ concat others)
