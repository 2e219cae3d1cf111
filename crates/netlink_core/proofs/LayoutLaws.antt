-- A layout that meets the conditions of `MeetsLayoutConditions` keeps the laws. Proved once, for
-- every layout.
use Rattle.std.proofs.Common.{◌≡◌, ◌↔◌, ℕ, ◌<◌, ◌≤◌, IsTrue, List, [], length, Result, Ok, Err}
use Rattle.std.proofs.Common.{refl, sym, ap, ◌∙◌, arith, append-nil, le-ltb, lt-ltb}
use Rattle.std.proofs.lemmas.Bool.{cases_lt}
use Rattle.netlink_core.specs.Bytes.{IsBytes}
use Rattle.netlink_core.specs.Table.{values_of, bytes_of}
use Rattle.netlink_core.specs.laws.LayoutObligations.{fields_are_consecutive, MeetsLayoutConditions}
use Rattle.netlink_core.specs.Layout.{Layout, parse_record, parse_fields, IsContainedIn}
use Rattle.netlink_core.specs.Layout.{record_bytes, AreEquivalent, IsInRange, IsNormal, plain}
use Rattle.netlink_core.specs.Layout.{tag_fields, field_numbers}
use Rattle.netlink_core.specs.Rows.{Row, fields_of, numbers_of}
use Rattle.netlink_core.specs.Errors.{map_ok}
use Rattle.netlink_core.specs.Codec.{KeepsCodecLaws, RecordLaws, record_codec}
use Rattle.netlink_core.specs.laws.Prefix.{value_or_error}
use Rattle.netlink_core.proofs.TableLaws.{AreConsecutiveFields, consecutive_from_test}
use Rattle.netlink_core.proofs.TableLaws.{values-bytes_of, values-fit, values-defined}
use Rattle.netlink_core.proofs.TableLaws.{bytes_of-bytes}
use Rattle.netlink_core.specs.declared.error.DecodeError.{DecodeError}
use Rattle.netlink_core.specs.declared.error.DecodeError.TheVariants.{Memory, BufferTooSmall}
use Rattle.netlink_core.specs.declared.error.RecordName.{RecordName}

-- `Ok x`, with the type of the error
abbrev ok_value : {T : Type 0} → T → Result T DecodeError
ok_value x = Ok x

-- What an accepted byte string and its value are: it is long enough, it has a tag, and the value
-- has the numbers of the bytes in the fields for this tag.
pub record ParsesByFields {Param Tag Value : Type 0} (layout : Layout Param Tag Value)
    (param : Param)
    (left : List ℕ) (value : Value) : Type 0 where
  pub long : layout.least ≤ length left
  pub tag : Tag
  pub tag_found : layout.tag_for param left ≡ Ok tag
  pub is : value ≡ layout.value tag (values_of (tag_fields layout tag) left)

module _ {Param Tag Value : Type 0} (layout : Layout Param Tag Value) where
  -- the value of bytes, by the fields for their tag
  abbrev parse_tagged : List ℕ → Result Tag DecodeError → Result Value DecodeError
  parse_tagged left tag_found = map_ok (λ tag.
      layout.value tag (values_of (tag_fields layout tag) left)) tag_found

  -- too few bytes are rejected
  pub too_short : (param : Param) (left : List ℕ) → length left < layout.least
      → parse_record layout param left ≡ Err (BufferTooSmall layout.name (length left) layout.least)
  too_short param left l = rw (lt-ltb (length left) layout.least l) refl

  -- enough bytes are parsed by their fields
  pub long_enough : (param : Param) (left : List ℕ) → layout.least ≤ length left
      → parse_record layout param left ≡ parse_fields layout param left
  long_enough param left l = rw (le-ltb (length left) layout.least l) refl

  -- bytes with a tag have the value of their fields
  pub parses_by_fields : (param : Param) (left : List ℕ) (tag : Tag)
      → layout.tag_for param left ≡ Ok tag
      → parse_fields layout param left
      ≡ Ok (layout.value tag (values_of (tag_fields layout tag) left))
  parses_by_fields param left tag e = ap (parse_tagged left) e

  parsed_has_tag : (tag_found : Result Tag DecodeError) (left : List ℕ) (value : Value)
      → parse_tagged left tag_found ≡ Ok value → (tag : Tag) × (tag_found ≡ Ok tag)
      × (value ≡ layout.value tag (values_of (tag_fields layout tag) left))
  parsed_has_tag tag_found left value e =
      grind arith

  -- bytes that parse by their fields have a tag, and the value has their numbers
  pub parsed_fields : (param : Param) (left : List ℕ) (value : Value)
      → parse_fields layout param left ≡ Ok value
      → (tag : Tag) × (layout.tag_for param left ≡ Ok tag)
      × (value ≡ layout.value tag (values_of (tag_fields layout tag) left))
  parsed_fields param left value e = parsed_has_tag (layout.tag_for param left) left value e

  -- bytes that parse are long enough and have a tag, and the value has their numbers
  pub parsed_by_fields : (param : Param) (left : List ℕ) (value : Value)
      → parse_record layout param left ≡ Ok value
      → ParsesByFields layout param left value
  parsed_by_fields param left value e =
      grind (
        arith,
        cases_lt (length left),
        too_short param left,
        parsed_has_tag,
        long_enough param left,
      )

  rejected_for_tag : (tag_found : Result Tag DecodeError) (left : List ℕ) (error : DecodeError)
      → parse_tagged left tag_found ≡ Err error → tag_found ≡ Err error
  rejected_for_tag tag_found left error e =
      grind arith

same_tag : {T : Type 0} (r : Result T DecodeError) (s t : T) → r ≡ Ok s → r ≡ Ok t → s ≡ t
same_tag r s t e f = cc

module _ {Param Tag Value : Type 0} (layout : Layout Param Tag Value)
    (sound : MeetsLayoutConditions layout) where
  -- the fields for the tag of bytes, or of a value, are consecutive
  parsed_fields_are_consecutive : (param : Param) (tag : Tag) (left : List ℕ)
      → layout.tag_for param left ≡ Ok tag
      → AreConsecutiveFields 0 (tag_fields layout tag) (sound.size tag)
  parsed_fields_are_consecutive param tag left tag_found =
      grind (arith, consecutive_from_test 0)

  own_fields_are_consecutive : (value : Value)
      → AreConsecutiveFields 0 (tag_fields layout (layout.tag_of value))
      (sound.size (layout.tag_of value))
  own_fields_are_consecutive value =
      grind (arith, consecutive_from_test 0)

  -- bytes are never rejected with `Memory`
  pub record_error_is_not_memory : (param : Param) (left : List ℕ)
      → parse_record layout param left ≡ Err Memory → ⊥
  record_error_is_not_memory param left e =
      grind (arith, cases_lt (length left), too_short, rejected_for_tag, long_enough)

  -- bytes with a tag contain the value of their fields
  contains_parsed_value : (param : Param) (tag : Tag) (left : List ℕ) → IsBytes left
      → layout.least ≤ length left
      → layout.tag_for param left ≡ Ok tag
      → IsContainedIn layout left param (layout.value tag (values_of (tag_fields layout tag) left))
  contains_parsed_value param tag left h long found =
      grind (arith, values-fit, values-defined)

  contained_is_parsed : (param : Param) (left : List ℕ) (value : Value)
      → IsContainedIn layout left param value
      → parse_record layout param left ≡ Ok value
  contained_is_parsed param left value ((long, found, numbers), in_range, normal) =
      grind (arith, long_enough, parses_by_fields)

  -- bytes parse as a value if and only if they contain it
  pub contained_iff_parsed : (param : Param) (left : List ℕ) (value : Value) → IsBytes left
      → (parse_record layout param left ≡ Ok value) ↔ IsContainedIn layout left param value
  contained_iff_parsed param left value h =
      grind (
        arith,
        parsed_by_fields,
        contains_parsed_value param,
        contained_is_parsed param left value,
      )

  -- bytes are equivalent if and only if they have the same value
  equivalent_from_equal : (param : Param) (left right : List ℕ) (value : Value)
      → IsContainedIn layout left param value → IsContainedIn layout right param value
      → AreEquivalent layout param left right
  equivalent_from_equal param left right value a b =
      (layout.tag_of value, field_numbers layout value, a.0, b.0)

  equal_from_equivalent : (param : Param) (left right : List ℕ)
      → AreEquivalent layout param left right
      → parse_record layout param left ≡ parse_record layout param right
  equal_from_equivalent param left right (tag, numbers, here, there) =
      grind (arith, long_enough, parses_by_fields)

  -- a value in range and in normal form round-trips
  pub record_round_trips : (param : Param) (value : Value) → IsInRange layout value
      → IsNormal layout param value → parse_record layout param (record_bytes layout value)
      ≡ Ok value
  record_round_trips param value t n =
      let enough = sound.enough value in
      let size = sound.long value in
      contained_is_parsed param (record_bytes layout value) value (
        (
          omega arith,
          sound.tag_written param value t n,
          values-bytes_of 0 (tag_fields layout (layout.tag_of value))
              (sound.size (layout.tag_of value))
              (field_numbers layout value) (record_bytes layout value) []
              (own_fields_are_consecutive value) t.1 n.0
              (sym (append-nil (record_bytes layout value))),
        ),
        t,
        n,
      )

  -- a value in range serializes to bytes
  pub record_bytes_in_range : (value : Value) → IsInRange layout value
      → IsBytes (record_bytes layout value)
  record_bytes_in_range value t =
      grind (arith, bytes_of-bytes 0, own_fields_are_consecutive value)

  pub layout_codec_laws : KeepsCodecLaws (record_codec layout)
  layout_codec_laws = record {
    is_total = λ b p tb. value_or_error (parse_record layout p b);
    is_exclusive = λ b p v e h k. cc;
    error_is_unique = λ b p e f h k. cc;
    error_is_not_memory = λ b p h. record_error_is_not_memory p b h;
    equal_iff_equivalent = λ b c p v w tb tc r s. (
      λ e. equivalent_from_equal p b c v ((contained_iff_parsed p b v tb).0 r)
          ((contained_iff_parsed p c v tc).0 (s ∙ ap (λ (x : Value). ok_value x) (sym e))),
      λ i. same_tag (parse_record layout p b) v w r (equal_from_equivalent p b c i ∙ s),
    );
    parsed_is_normal = λ b p v tb r. let x = (contained_iff_parsed p b v tb).0 r in (x.1, x.2);
    serialized_in_range = record_bytes_in_range;
    round_trips = λ p v tv n f. record_round_trips p v tv n;
  }

  pub record_laws : RecordLaws layout
  record_laws =
      grind (arith, layout_codec_laws, contains_parsed_value, contained_iff_parsed)

-- the conditions on the layout of a record with the same rows for all values
pub plain_sound : {Value : Type 0} {name : RecordName} {size : ℕ} {rows : List (Row Value)}
    {value : List ℕ → Value} {arrays_fit : Value → Type 0}
    → IsTrue (fields_are_consecutive 0 (fields_of rows) size)
    → ((v : Value) → length (bytes_of (fields_of rows) (numbers_of rows v)) ≡ size)
    → ((left : List ℕ) → numbers_of rows (value (values_of (fields_of rows) left))
    ≡ values_of (fields_of rows) left)
    → ((left : List ℕ) → arrays_fit (value (values_of (fields_of rows) left)))
    → ((v : Value) → arrays_fit v → value (numbers_of rows v) ≡ v)
    → MeetsLayoutConditions (plain name size rows value arrays_fit)
plain_sound {size = size} rows_are long kept shaped back = record {
  size = λ tag. size;
  tables = λ param tag left e. rows_are;
  room = λ param tag left enough e. enough;
  own_table = λ value. rows_are;
  enough = λ value. omega arith;
  long = long;
  named = λ param left e. grind arith;
  kept = λ param tag left h e. kept left;
  tagged = λ param tag left e. refl;
  shaped = λ param tag left h e. shaped left;
  owned = λ param tag left h e. tt;
  back = λ param value t n. back value t.0;
  tag_written = λ param value t n. refl;
}
