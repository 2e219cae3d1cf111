-- The fields of a record, consecutive, each with its offset in bytes. Bytes are a list of numbers
-- below 256.
use Rattle.std.specs.Prelude.{⊤, ◌≡◌, ◌<◌, ℕ, zero, suc, ◌+◌, ◌^◌, List, [], ◌∷◌, ◌++◌, drop}
use Rattle.std.specs.Prelude.{slice_index, bit_and}
use Rattle.byteorder.specs.Endian.{little_number, big_number, little_bytes, big_bytes}

-- A field of a record, at an offset.
pub data Field : Type 0 where
  -- one byte
  byte : (offset : ℕ) → Field
  -- a number of `width` bytes: little-endian (`number`), or big-endian, in network byte order
  -- (`network`)
  number network : (offset width : ℕ) → Field
  -- a little-endian number of flags, of which only the bits of the mask are defined
  flags : (offset width mask : ℕ) → Field
  -- bytes that the parser ignores; the serializer writes the bytes `written` there
  unread : (offset : ℕ) → (written : List ℕ) → Field

-- `array field offset width count`: `count` consecutive fields of `width` bytes, the first at the
-- offset; `field` makes one of them from its offset and width, for example `number`
abbrev pub array : (ℕ → ℕ → Field) → (offset width count : ℕ) → List Field
array field offset width zero = []
array field offset width (suc count) =
    field offset width ∷ array field (offset + width) width count

-- `bytes_at offset count`: `count` consecutive bytes, the first at the offset, each a field
abbrev pub bytes_at : (offset count : ℕ) → List Field
bytes_at offset count = array (λ at width. byte at) offset 1 count

-- `u32_fields offset count`: `count` consecutive little-endian fields of 4 bytes, the first at the
-- offset
abbrev pub u32_fields : (offset count : ℕ) → List Field
u32_fields offset count = array number offset 4 count

-- `u64_fields offset count`: `count` consecutive little-endian fields of 8 bytes, the first at the
-- offset
abbrev pub u64_fields : (offset count : ℕ) → List Field
u64_fields offset count = array number offset 8 count

-- `u16_be_fields offset count`: `count` consecutive fields of 2 bytes in network byte order, the
-- first at the offset
abbrev pub u16_be_fields : (offset count : ℕ) → List Field
u16_be_fields offset count = array network offset 2 count

-- `values_of fields b`: the numbers in the bytes `b`, in order, one for each field that is not
-- ignored. A number of flags has only its defined bits. A byte past the end counts as 0, but no
-- record is parsed from such a byte: `parse_record` and `HasTagAndNumbers` require `least` bytes of
-- the layout, and in accepted bytes all fields of their tag are within the bytes (`room` of
-- `MeetsLayoutConditions`).
abbrev pub values_of : List Field → List ℕ → List ℕ
values_of [] b = []
values_of (byte at ∷ fields) b = slice_index b at ∷ values_of fields b
values_of (number at width ∷ fields) b = little_number width (drop at b) ∷ values_of fields b
values_of (network at width ∷ fields) b = big_number width (drop at b) ∷ values_of fields b
values_of (flags at width mask ∷ fields) b =
    bit_and (little_number width (drop at b)) mask ∷ values_of fields b
values_of (unread at written ∷ fields) b = values_of fields b

-- `bytes_of fields values`: the bytes that the fields serialize to, given one number for each field
-- that is not ignored. The bytes of the fields are concatenated, and their offsets are not
-- considered. Each field is written at its offset nevertheless, since the fields of each layout are
-- consecutive from offset 0 on (`fields_are_consecutive`, which `MeetsLayoutConditions` requires).
-- By the codec law `round_trips`, `values_of` finds the numbers at these offsets again. Undefined
-- flags are not removed. If a number is missing, nothing more is written.
abbrev pub bytes_of : List Field → List ℕ → List ℕ
bytes_of (unread at written ∷ fields) values = written ++ bytes_of fields values
bytes_of (byte at ∷ fields) (value ∷ values) = value ∷ bytes_of fields values
bytes_of (network at width ∷ fields) (value ∷ values) =
    big_bytes width value ++ bytes_of fields values
bytes_of (number at width ∷ fields) (value ∷ values) =
    little_bytes width value ++ bytes_of fields values
bytes_of (flags at width mask ∷ fields) (value ∷ values) =
    little_bytes width value ++ bytes_of fields values
bytes_of _ _ = []

-- `first_numbers count numbers`: the first `count` numbers of the list; 0 for each that is missing
abbrev pub first_numbers : (count : ℕ) → List ℕ → List ℕ
first_numbers zero numbers = []
first_numbers (suc count) numbers =
    slice_index numbers 0 ∷ first_numbers count (drop 1 numbers)

-- `FitFields fields values`: there is exactly one number for each field that is not ignored, and
-- each number fits the width of its field; the masks of flags are not considered. The last equation
-- is for too few or too many numbers (`⊥`).
abbrev pub FitFields : List Field → List ℕ → Type 0
FitFields [] [] = ⊤
FitFields (unread at written ∷ fields) values = FitFields fields values
FitFields (byte at ∷ fields) (value ∷ values) = (value < 256) × FitFields fields values
FitFields (number at width ∷ fields) (value ∷ values) =
    (value < 256 ^ width) × FitFields fields values
FitFields (network at width ∷ fields) (value ∷ values) =
    (value < 256 ^ width) × FitFields fields values
FitFields (flags at width mask ∷ fields) (value ∷ values) =
    (value < 256 ^ width) × FitFields fields values
FitFields _ _ = ⊥

-- `HaveDefinedFlags fields values`: each number in a field of flags has only defined bits, those of
-- its mask; the other fields are not considered
abbrev pub HaveDefinedFlags : List Field → List ℕ → Type 0
HaveDefinedFlags (unread at written ∷ fields) values = HaveDefinedFlags fields values
HaveDefinedFlags (flags at width mask ∷ fields) (value ∷ values) =
    (bit_and value mask ≡ value) × HaveDefinedFlags fields values
HaveDefinedFlags (field ∷ fields) (value ∷ values) = HaveDefinedFlags fields values
HaveDefinedFlags _ _ = ⊤
