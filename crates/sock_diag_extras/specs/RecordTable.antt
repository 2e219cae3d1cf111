-- Layouts of records. They have no name, since parsing returns None in place of an error with the
-- name of the record. Their rows do not depend on the value.
use Rattle.std.specs.Prelude.{ℕ, List}
use Rattle.netlink_core.specs.Table.{values_of, bytes_of}
use Rattle.netlink_core.specs.Rows.{Row, fields_of, numbers_of}
use Rattle.netlink_core.specs.Layout.{Layout, plain}
use Rattle.netlink_core.specs.declared.error.RecordName.{RecordName}

-- The layout of a record: a C struct that is parsed as `Value`.
pub record RecordTable (Value : Type 0) : Type 1 where
  -- the size in bytes
  pub size : ℕ
  -- a row for each number or array that is read, in order: its offset, type, and member of `Value`
  pub rows : List (Row Value)
  -- the value with these numbers in its rows; an array has one number for each element
  pub value : List ℕ → Value
  -- each array of the value has the length of its Rust type
  pub arrays_fit : Value → Type 0

-- `parse_by_table layout bytes`: the value at the start of the bytes, of which there are at least
-- `layout.size`. Each row has its numbers at its offset (`values_of`), and `layout.value` makes the
-- value of the numbers of all rows, in order.
abbrev pub parse_by_table : {Value : Type 0} → RecordTable Value → List ℕ → Value
parse_by_table layout bytes = layout.value (values_of (fields_of layout.rows) bytes)

-- `bytes_by_table layout value`: the bytes of a value: the numbers of its rows (`numbers_of`), in
-- the order of the rows, each in the width and the byte order of its row.
abbrev pub bytes_by_table : {Value : Type 0} → RecordTable Value → Value → List ℕ
bytes_by_table layout value = bytes_of (fields_of layout.rows) (numbers_of layout.rows value)

-- `layout_with_name layout name`: the record as a `Layout` of netlink_core, whose parser has errors
-- that contain a name.
abbrev pub layout_with_name : {Value : Type 0} → RecordTable Value → RecordName
    → Layout (Unit {0}) (Unit {0}) Value
layout_with_name layout name = plain name layout.size layout.rows layout.value layout.arrays_fit
