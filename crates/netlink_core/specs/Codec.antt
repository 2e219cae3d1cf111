-- Codecs: how values of one kind are parsed and serialized, and the codec laws.
use Rattle.std.specs.Prelude.{⊤, ◌≡◌, ◌≢◌, ◌↔◌, ◌⊎◌, ℕ, List, Ok, Err}
use Rattle.netlink_core.specs.Bytes.{IsBytes}
use Rattle.netlink_core.specs.Layout.{Layout, parse_record, IsContainedIn}
use Rattle.netlink_core.specs.ValueCodec.{ValueCodec, value_codec}
use Rattle.netlink_core.specs.declared.error.DecodeError.{DecodeError}
use Rattle.netlink_core.specs.declared.error.DecodeError.TheVariants.{Memory}

-- How values of one kind are parsed, with a parameter, and serialized. In the comments `b` and `c`
-- are byte strings, `p` is the parameter (`tt` if there is none), `v` is a value and `e` an error.
pub record Codec (Param : Type 0) : Type 1 where
  -- the type of the values
  pub Value : Type 0
  -- `is_in_range v`: each number of `v` fits its field
  pub is_in_range : Value → Type 0
  -- `parses b p v`: `b` is accepted, and parses as `v`
  pub parses : List ℕ → Param → Value → Type 0
  -- `rejects b p e`: `b` is rejected, and `e` is its first error
  pub rejects : List ℕ → Param → DecodeError → Type 0
  -- `needs_no_memory v`: `v` is stored without an allocation
  pub needs_no_memory : Value → Type 0
  -- `equivalent p b c`: the accepted byte strings `b` and `c` are equivalent: they differ only in
  -- ignored bits
  pub equivalent : Param → List ℕ → List ℕ → Type 0
  -- `is_normal p v`: `v` is in normal form, the form of every parsed value
  pub is_normal : Param → Value → Type 0
  -- `serialized v`: the bytes that `v` serializes to
  pub serialized : Value → List ℕ
  -- `is_writable v`: `v` is writable: its lengths fit their length fields
  pub is_writable : Value → Type 0

-- `IsOnly predicate x`: the predicate holds of `x`, and of nothing else
abbrev pub IsOnly : {A : Type 0} → (A → Type 0) → A → Type 0
IsOnly {A} predicate x = predicate x × ((y : A) → predicate y → y ≡ x)

-- `HasOneResult C b p`: the bytes `b` parse as exactly one value and are not rejected; or they are
-- rejected with exactly one error, and do not parse. This error is not `Memory`, which is an error
-- of a call, not of bytes.
abbrev pub HasOneResult : {Param : Type 0} → Codec Param → List ℕ → Param → Type 0
HasOneResult C b p =
    ((v : C.Value) × IsOnly (C.parses b p) v × ((e : DecodeError) → ¬ C.rejects b p e))
    ⊎ ((e : DecodeError) × IsOnly (C.rejects b p) e × (e ≢ Memory)
    × ((v : C.Value) → ¬ C.parses b p v))

-- `KeepsCodecLaws C`: the codec laws hold of `C`, for all byte strings, parameters, values and
-- errors. Several laws require that the numbers of a byte string are below 256 (`IsBytes`).
pub record KeepsCodecLaws {Param : Type 0} (C : Codec Param) : Type 0 where
  -- In this order: bytes have a value or an error; not both; at most one error; and this error is
  -- not `Memory`, which is an error of a call, not of bytes.
  pub is_total : (b : List ℕ) (p : Param) → IsBytes b
      → ((v : C.Value) × C.parses b p v) ⊎ ((e : DecodeError) × C.rejects b p e)
  pub is_exclusive : (b : List ℕ) (p : Param) (v : C.Value) (e : DecodeError)
      → C.parses b p v → C.rejects b p e → ⊥
  pub error_is_unique : (b : List ℕ) (p : Param) (e f : DecodeError)
      → C.rejects b p e → C.rejects b p f → e ≡ f
  pub error_is_not_memory : (b : List ℕ) (p : Param) → C.rejects b p Memory → ⊥
  -- two accepted byte strings have equal values if and only if they are equivalent
  pub equal_iff_equivalent : (b c : List ℕ) (p : Param) (v w : C.Value) → IsBytes b → IsBytes c
      → C.parses b p v → C.parses c p w → ((v ≡ w) ↔ C.equivalent p b c)
  -- every parsed value is in range and in normal form
  pub parsed_is_normal : (b : List ℕ) (p : Param) (v : C.Value) → IsBytes b
      → C.parses b p v → C.is_in_range v × C.is_normal p v
  -- a value in range serializes to bytes (`serialized_in_range`); if it is also writable and in
  -- normal form, these bytes parse as it (`round_trips`)
  pub serialized_in_range : (v : C.Value) → C.is_in_range v → IsBytes (C.serialized v)
  pub round_trips : (p : Param) (v : C.Value) → C.is_in_range v → C.is_normal p v → C.is_writable v
      → C.parses (C.serialized v) p v

-- `as_codec part`: the codec of a part of a message by itself, given its `ValueCodec`, whose
-- members it has. `part.parses` returns the value or the error: here `parses` says that it returns
-- the value `v`, and `rejects` that it returns the error `e`. No value needs memory (`⊤`), and each
-- value is writable (`⊤`).
abbrev pub as_codec : {Param : Type 0} → ValueCodec Param → Codec Param
as_codec part = record {
  Value = part.Value;
  is_in_range = part.is_in_range;
  parses = λ b p v. part.parses p b ≡ Ok v;
  rejects = λ b p e. part.parses p b ≡ Err e;
  needs_no_memory = λ v. ⊤;
  equivalent = part.equivalent;
  is_normal = part.is_normal;
  serialized = part.bytes;
  is_writable = λ v. ⊤;
}

-- `record_codec layout`: the codec of a record, given its layout: `parse_record` and `record_bytes`
-- parse and serialize; `AreEquivalent`, `IsInRange` and `IsNormal` are `equivalent`, `is_in_range`
-- and `is_normal`; no value needs memory, and each is writable
abbrev pub record_codec : {Param Tag Value : Type 0} → Layout Param Tag Value → Codec Param
record_codec layout = as_codec (value_codec layout)

-- `RecordLaws layout`: the laws of a record: the codec laws (`codec`), and that bytes parse as a
-- value if and only if they contain it (`parsed_iff_contained`).
pub record RecordLaws {Param Tag Value : Type 0} (layout : Layout Param Tag Value) : Type 0 where
  pub codec : KeepsCodecLaws (record_codec layout)
  pub parsed_iff_contained : (b : List ℕ) (p : Param) (v : Value) → IsBytes b
      → (parse_record layout p b ≡ Ok v) ↔ IsContainedIn layout b p v
