-- Numbers and texts that take all of their bytes.
use Rattle.std.specs.Prelude.{ℕ, ◌-◌, ◌==◌, if◌then◌else◌, List, length, take, slice_index, Option}
use Rattle.std.specs.Prelude.{Result, Ok, Err}
use Rattle.std.specs.Str.{is_utf8}
use Rattle.byteorder.specs.Endian.{little_number}
use Rattle.netlink_core.specs.declared.error.DecodeError.{DecodeError}
use Rattle.netlink_core.specs.declared.error.DecodeError.TheVariants.{WrongLength, NotUtf8}

-- `number_of_width kind width bytes`: `Ok` of the little-endian number, if there are exactly
-- `width` bytes; else `Err` of a `WrongLength` with `kind` and both lengths. `kind` is the kind of
-- the attribute, or `None` if the value is parsed by itself.
abbrev pub number_of_width : (kind : Option ℕ) → (width : ℕ) → List ℕ → Result ℕ DecodeError
number_of_width kind width bytes = if length bytes == width then Ok (little_number width bytes)
    else Err (WrongLength kind (length bytes) width)

-- `without_terminating_nul bytes`: the bytes without their last byte, if this is NUL. Only one NUL
-- is removed. The empty list stays empty: `slice_index` is 0 past the end, and 0 - 1 is 0.
abbrev pub without_terminating_nul : List ℕ → List ℕ
without_terminating_nul bytes = if slice_index bytes (length bytes - 1) == 0
    then take (length bytes - 1) bytes else bytes

-- `parse_text bytes`: removes one terminating NUL from the bytes, if there is one; `Ok` of the rest
-- if it is valid UTF-8, else `Err NotUtf8`
abbrev pub parse_text : List ℕ → Result (List ℕ) DecodeError
parse_text bytes = if is_utf8 (without_terminating_nul bytes)
    then Ok (without_terminating_nul bytes) else Err NotUtf8
