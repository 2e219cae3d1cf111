-- The effect of feeding datagrams to the reader of a dump.
use Rattle.std.specs.Prelude.{◌≡◌, ◌≢◌, ◌↔◌, ◌⊎◌, ℕ, ℤ, List, [], ◌∷◌, ◌++◌, Bool, false, IsTrue}
use Rattle.std.specs.Prelude.{Option, Result, Ok, Err, None, IsBitSet}
use Rattle.std.specs.List.{FoldsTo}
use Rattle.netlink_core.specs.Datagram.{StartsWithMessage}
use Rattle.netlink_core.specs.declared.message.NetlinkPayload.TheVariants.{InnerMessage}
use Rattle.netlink_core.specs.Header.{HasHeader}
use Rattle.netlink_core.specs.Items.{Item, AreItemsOf}
use Rattle.netlink_core.specs.declared.error.DecodeError.{DecodeError}
use Rattle.netlink_core.specs.declared.header.NetlinkHeader.{NetlinkHeader}
use Rattle.netlink_core.specs.declared.error.DecodeError.TheVariants.{Memory}
use Rattle.netlink_packet_sock_diag.specs.declared.dump.DumpState.{DumpState}
use Rattle.netlink_packet_sock_diag.specs.declared.dump.DumpState.TheVariants.{Failed, Reading}
use Rattle.netlink_packet_sock_diag.specs.declared.dump.DumpError.{DumpError}
use Rattle.netlink_packet_sock_diag.specs.declared.dump.DumpError.TheVariants.{Ended, Fault}
use Rattle.netlink_packet_sock_diag.specs.Dump.{DumpOfItems, DumpStatus, dump_end_at}

-- The progress of a reader of dumps: the messages that it keeps, the state, the error number of the
-- message that ended the dump, and whether a message up to and including that message had the flag
-- NLM_F_DUMP_INTR.
pub record DumpProgress (A : Type 0) : Type 0 where
  pub messages : List A
  pub state : DumpState
  pub error_number : Option ℤ
  pub is_interrupted : Bool

-- `dump_with messages end is_interrupted`: the progress with these messages, with the state
-- (`end.0`) and the error number (`end.1`) of `end`, and with this value for whether the dump is
-- interrupted
abbrev pub dump_with : {A : Type 0} → List A → DumpStatus → Bool → DumpProgress A
dump_with messages end is_interrupted = record {
  messages = messages;
  state = end.0;
  error_number = end.1;
  is_interrupted = is_interrupted;
}

-- the progress of a reader that nothing was fed to: no messages, the state `Reading`, no error
-- number, not interrupted
abbrev pub new_dump : {A : Type 0} → DumpProgress A
new_dump = dump_with [] (Reading, None) false

-- the state (`.0`) and the error number (`.1`) of a progress
abbrev pub status_of_dump : {A : Type 0} → DumpProgress A → DumpStatus
status_of_dump dump = (dump.state, dump.error_number)

-- The dump is still being read: its state is `Reading`, and it has no error number. So neither a
-- message nor an error has ended it.
abbrev pub IsReading : {A : Type 0} → DumpProgress A → Type 0
IsReading dump = status_of_dump dump ≡ (Reading, None)

-- `InterruptsDump bytes items`: the messages at the start of `bytes` interrupt a dump; `items` are
-- their items. Either the header of the first message has the flag NLM_F_DUMP_INTR (0x10, bit
-- 4). Or the first item does not end the dump, and the messages after it interrupt the dump. If
-- there are no items, nothing interrupts the dump.
abbrev pub InterruptsDump : {A : Type 0} → List ℕ → List (Item A) → Type 0
InterruptsDump bytes [] = ⊥
InterruptsDump bytes (item ∷ items) = (message rest : List ℕ) × StartsWithMessage bytes message rest
    × (((h : NetlinkHeader) × HasHeader message h × IsBitSet h.flags 4)
    ⊎ ((dump_end_at item ≡ None) × InterruptsDump rest items))

-- `item_is` relates a message to its item. It is the first argument of each definition of this
-- module.
module _ {A : Type 0} (item_is : List ℕ → Item A → Type 0) where
  -- `ReadsDatagram item_is (old, datagram) (new, end)`: the items of the datagram extend the
  -- messages of `old` to those of `new`, and lead to this end. The dump is interrupted if it was
  -- before, or if the datagram interrupts it. The state and the error number of `old` and `new` are
  -- not considered.
  abbrev pub ReadsDatagram : DumpProgress A × List ℕ
      → DumpProgress A × Result DumpStatus DecodeError → Type 0
  ReadsDatagram (old, datagram) (new, end) =
      (items : List (Item A)) × AreItemsOf item_is datagram items
      × DumpOfItems (old.messages, items) (new.messages, end)
      × (IsTrue new.is_interrupted ↔ (IsTrue old.is_interrupted ⊎ InterruptsDump datagram items))

  -- `AllocationFailsAt item_is (old, datagram) (new, entry)`: an inner message of the datagram,
  -- with the item `Ok (InnerMessage entry)`, was not kept, because an allocation failed. No item
  -- before it ends the dump. `new.messages` are `old.messages` and the inner messages before it.
  -- `new` is interrupted if `old` was, or if this message or one before it has the flag
  -- NLM_F_DUMP_INTR. The state and the error number of `old` and `new` are not considered.
  abbrev pub AllocationFailsAt : DumpProgress A × List ℕ → DumpProgress A × A → Type 0
  AllocationFailsAt (old, datagram) (new, entry) = (earlier later : List (Item A))
      × AreItemsOf item_is datagram (earlier ++ Ok (InnerMessage entry) ∷ later)
      × DumpOfItems (old.messages, earlier) (new.messages, Ok (Reading, None))
      × (IsTrue new.is_interrupted ↔ (IsTrue old.is_interrupted
      ⊎ InterruptsDump datagram (earlier ++ Ok (InnerMessage entry) ∷ [])))

  -- `FeedLeadsTo item_is (old, datagram) (new, result)`: what a call of `feed` does. The progress
  -- before it is `old`, and `new` the one after it. By the result:
  -- - `Ok`: the dump was being read. `new` has the messages, the interruption, and the end that
  --   `ReadsDatagram` states: the state `Reading`, `Done`, `Error` or `Overrun`, and the error
  --   number.
  -- - `Err Ended`: the dump had ended before, and is unchanged.
  -- - `Err (Fault e)`: the dump was being read. Its state is now `Failed`, without an error number.
  --   The messages and the interruption are those of reading the datagram up to the error `e`, or,
  --   if `e` is `Memory`, up to an inner message at which an allocation failed.
  abbrev pub FeedLeadsTo : DumpProgress A × List ℕ → DumpProgress A × Result Unit DumpError → Type 0
  FeedLeadsTo (old, datagram) (new, Ok _) =
      IsReading old × ReadsDatagram (old, datagram) (new, Ok (status_of_dump new))
  FeedLeadsTo (old, datagram) (new, Err Ended) = (old.state ≢ Reading) × (new ≡ old)
  FeedLeadsTo (old, datagram) (new, Err (Fault e)) =
      IsReading old × (status_of_dump new ≡ (Failed, None))
      × (e ≢ Memory → ReadsDatagram (old, datagram) (new, Err e))
      × (e ≡ Memory → (entry : A) × AllocationFailsAt (old, datagram) (new, entry))

  -- `FeedsWithMemory item_is old datagram new`: feeding the datagram leads from `old` to `new`, and
  -- does not fail with `Memory`. It may fail with another error.
  abbrev pub FeedsWithMemory : DumpProgress A → List ℕ → DumpProgress A → Type 0
  FeedsWithMemory old datagram new = (result : Result Unit DumpError)
      × FeedLeadsTo (old, datagram) (new, result) × (result ≢ Err (Fault Memory))

  -- `FeedingAllLeadsTo item_is old datagrams new`: feeding the datagrams in order, starting from
  -- `old`, leads to `new`, and no `feed` fails with `Memory` (`FoldsTo`: one step of
  -- `FeedsWithMemory` for each datagram). Datagrams after the end of the dump change nothing.
  abbrev pub FeedingAllLeadsTo : DumpProgress A → List (List ℕ) → DumpProgress A → Type 0
  FeedingAllLeadsTo = FoldsTo FeedsWithMemory

  -- `NewReaderReaches item_is datagrams progress`: feeding the datagrams in order to a new reader
  -- leads to this progress, and no `feed` fails with `Memory`
  abbrev pub NewReaderReaches : List (List ℕ) → DumpProgress A → Type 0
  NewReaderReaches datagrams progress = FeedingAllLeadsTo new_dump datagrams progress

  -- `IsReachedByFeeding item_is progress`: a reader can have this progress. Either feeding some
  -- datagrams to a new reader leads to it, and no `feed` fails with `Memory`. Or that leads to an
  -- earlier progress, from which feeding one more datagram leads to this one, and the dump has
  -- failed.
  abbrev pub IsReachedByFeeding : DumpProgress A → Type 0
  IsReachedByFeeding progress = (datagrams : List (List ℕ)) × (earlier : DumpProgress A)
      × NewReaderReaches datagrams earlier
      × ((earlier ≡ progress)
      ⊎ ((status_of_dump progress ≡ (Failed, None)) × (last : List ℕ)
      × (result : Result Unit DumpError) × FeedLeadsTo (earlier, last) (progress, result)))
