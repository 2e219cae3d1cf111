-- An instruction of a socket filter in PACKET_DIAG_FILTER, 8 bytes. It has no array, so
-- `arrays_fit` always holds (`⊤`).
use Rattle.std.specs.Prelude.{⊤, [], ◌∷◌, slice_index}
use Rattle.netlink_core.specs.Rows.{u8, u16, u32}
use Rattle.sock_diag_extras.specs.RecordTable.{RecordTable}
use Rattle.sock_diag_extras.specs.declared.filter_instruction.FilterInstruction.{FilterInstruction}

-- `struct sock_filter` (linux/filter.h): `code`, `jt`, `jf` and `k`. `value` makes the record of
-- the numbers in its rows.
abbrev pub filter_instruction : RecordTable FilterInstruction
filter_instruction = record {
  size = 8;
  rows =
      u16 0 FilterInstruction.code ∷
      u8 2 FilterInstruction.jump_if_met ∷
      u8 3 FilterInstruction.jump_if_not_met ∷
      u32 4 FilterInstruction.operand ∷ [];
  value = λ numbers. record {
    code = slice_index numbers 0;
    jump_if_met = slice_index numbers 1;
    jump_if_not_met = slice_index numbers 2;
    operand = slice_index numbers 3;
  };
  arrays_fit = λ _. ⊤;
}
