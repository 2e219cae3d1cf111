-- The rows of a record's layout, one for each member of the C struct: its offset, its width and
-- byte order, and the Rust member that is stored there.
use Rattle.std.specs.Prelude.{ℕ, Bool, if◌then◌else◌, List, [], ◌∷◌}
use Rattle.std.specs.List.{flat_map}
use Rattle.netlink_core.specs.Table.{Field, byte, number, network, flags, unread}
use Rattle.netlink_core.specs.Table.{bytes_at, first_numbers, u16_be_fields}

-- `Row Value`: a row of the layout of a `Value`. The first part (`row.0`) is its fields. The second
-- part (`row.1`) is a function from a value to the numbers in these fields, in order, without those
-- of ignored fields.
abbrev pub Row : Type 0 → Type 0
Row Value = List Field × (Value → List ℕ)

-- `Value` is the Rust type of the record
module _ {Value : Type 0} where
  -- `fields_of rows`: the fields of all rows, in order
  abbrev pub fields_of : List (Row Value) → List Field
  fields_of rows = flat_map (λ row. row.0) rows

  -- `numbers_of rows value`: the numbers of the value in the fields of all rows, in order; none for
  -- a field that is ignored
  abbrev pub numbers_of : List (Row Value) → Value → List ℕ
  numbers_of rows value = flat_map (λ row. row.1 value) rows

  -- `single field get`: a row of one field, which contains the number `get value`
  abbrev pub single : Field → (Value → ℕ) → Row Value
  single field get = (field ∷ [], λ value. get value ∷ [])

  -- `u8 offset get`: `__u8`. In this row and in those below, `get` returns the member of the value
  -- that is stored at the offset: `u8 2 TcpInfo.retransmits`.
  abbrev pub u8 : (offset : ℕ) → (Value → ℕ) → Row Value
  u8 offset = single (byte offset)

  -- `u16 offset get`: `__u16`, little-endian
  abbrev pub u16 : (offset : ℕ) → (Value → ℕ) → Row Value
  u16 offset = single (number offset 2)

  -- `u32 offset get`: `__u32`, little-endian
  abbrev pub u32 : (offset : ℕ) → (Value → ℕ) → Row Value
  u32 offset = single (number offset 4)

  -- `u64 offset get`: `__u64`, little-endian
  abbrev pub u64 : (offset : ℕ) → (Value → ℕ) → Row Value
  u64 offset = single (number offset 8)

  -- `be16 offset get`: `__be16`, in network byte order
  abbrev pub be16 : (offset : ℕ) → (Value → ℕ) → Row Value
  be16 offset = single (network offset 2)

  -- `flags32 offset mask get`: a little-endian `__u32` of flags; the bits that are 0 in the mask
  -- are undefined, and the parser ignores them
  abbrev pub flags32 : (offset mask : ℕ) → (Value → ℕ) → Row Value
  flags32 offset mask = single (flags offset 4 mask)

  -- `u8s offset count get`: an array of `count` bytes, the first at the offset. The list `get
  -- value` has this length if the value is in range (`arrays_fit`); else it is filled with zeros,
  -- or truncated.
  abbrev pub u8s : (offset count : ℕ) → (Value → List ℕ) → Row Value
  u8s offset count get = (bytes_at offset count, λ value. first_numbers count (get value))

  -- `be16s offset count get`: an array of `count` numbers of 16 bits in network byte order, the
  -- first at the offset. The list `get value` has this length if the value is in range
  -- (`arrays_fit`); else it is filled with zeros, or truncated.
  abbrev pub be16s : (offset count : ℕ) → (Value → List ℕ) → Row Value
  be16s offset count get = (u16_be_fields offset count, λ value. first_numbers count (get value))

  -- `skip offset written`: bytes that the parser ignores; the serializer writes the bytes `written`
  -- there, as many as are ignored
  abbrev pub skip : (offset : ℕ) → (written : List ℕ) → Row Value
  skip offset written = (unread offset written ∷ [], λ value. [])

  -- `when test row`: the row if the test is true; else a row without fields and numbers
  abbrev pub when : Bool → Row Value → Row Value
  when test row = if test then row else ([], λ value. [])

-- `embed get rows`: one row of an outer record for a whole inner record, which has these rows.
-- `get` returns the inner value of an outer value. The offsets in `rows` are already those in the
-- outer record.
abbrev pub embed : {Outer Inner : Type 0} → (Outer → Inner) → List (Row Inner) → Row Outer
embed get rows = (fields_of rows, λ value. numbers_of rows (get value))
