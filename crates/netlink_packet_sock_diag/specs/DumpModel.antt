-- The model of the readers of dumps: what contracts see of them. `I` is the type of what a reader
-- keeps of each message, and `G` are the ghost members of its `DumpEntry`.
use Rattle.std.specs.Prelude.{◌≤◌, List, Result, map, vec_capacity, vec_len}
use Rattle.netlink_core.specs.Errors.{map_ok}
use Rattle.netlink_core.specs.declared.error.DecodeError.{DecodeError}
use Rattle.netlink_packet_sock_diag.specs.declared.dump.DumpReader.{DumpReader}
use Rattle.netlink_packet_sock_diag.specs.declared.dump.generic.GenericDump.{GenericDump}
use Rattle.netlink_packet_sock_diag.specs.declared.dump.entry.DumpEntry.{Ghosts}
use Rattle.netlink_packet_sock_diag.specs.declared.dump.lossy.LossyDump.{LossyDump}
use Rattle.netlink_packet_sock_diag.specs.declared.message.SockDiagMessage.{SockDiagMessage}
use Rattle.netlink_packet_sock_diag.specs.Feed.{DumpProgress, dump_with}
use Rattle.netlink_packet_sock_diag.specs.Message.{Message}
use Rattle.netlink_packet_sock_diag.specs.MessageModel.{message_model}

-- `generic_dump_progress model dump`: the progress of the reader `dump`. Its messages are the
-- models of the values that the reader keeps, in order; `model` maps a value to its model.
abbrev pub generic_dump_progress : {I A : Type 0} {G : Ghosts I} → (I → A) → GenericDump I G
    → DumpProgress A
generic_dump_progress model dump = dump_with
    (map model dump.entries.items) dump.status dump.interrupted

-- `IsFull dump`: the list of the values that the reader `dump` keeps has no free slot, so that
-- another value needs memory
abbrev pub IsFull : {I : Type 0} {G : Ghosts I} → GenericDump I G → Type 0
IsFull dump = vec_capacity dump.entries ≤ vec_len dump.entries

-- the progress of a `DumpReader`; its messages are the models of the messages that it keeps
abbrev pub reader_progress : DumpReader → DumpProgress Message
reader_progress reader = generic_dump_progress message_model reader.dump

-- the entries of a `LossyDump`: messages, and the decode errors of rejected ones
abbrev pub lossy_entries : LossyDump → List (Result SockDiagMessage DecodeError)
lossy_entries lossy = lossy.dump.entries.items

-- The progress of a `LossyDump`. Its messages are the entries, each with the model of its message,
-- or with its decode error: `map_ok f r` is `Ok (f v)` if `r` is `Ok v`, and else the error of `r`.
abbrev pub lossy_progress : LossyDump → DumpProgress (Result Message DecodeError)
lossy_progress lossy = generic_dump_progress (map_ok message_model) lossy.dump

-- the list of entries of a `LossyDump` has no free slot, so that another entry needs memory
abbrev pub EntriesAreFull : LossyDump → Type 0
EntriesAreFull lossy = IsFull lossy.dump
