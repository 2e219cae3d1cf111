-- The laws of the usual attribute types.
use Rattle.std.proofs.Common.{Some, Result, Ok, Err, ◌≡◌, ◌∙◌, ℕ, ◌^◌, ◌<◌, List, [], length, sym}
use Rattle.std.proofs.Common.{arith}
use Rattle.std.specs.Prelude.{⊤, bit_and}
use Rattle.std.proofs.lemmas.List.{append-nil, take_all}
use Rattle.std.proofs.lemmas.Bool.Decides.{nat_tests}
use Rattle.byteorder.specs.Endian.{little_number, little_bytes}
use Rattle.byteorder.specs.Numbers.{little_from-lt, little_number-reads_back}
use Rattle.byteorder.specs.Numbers.{length-bytes_low_first}
use Rattle.netlink_core.specs.declared.error.DecodeError.{DecodeError}
use Rattle.netlink_core.specs.declared.error.DecodeError.TheVariants.{Memory}
use Rattle.netlink_core.specs.Bytes.{IsBytes}
use Rattle.netlink_core.specs.laws.Byte.{IsBytes-number}
use Rattle.netlink_core.specs.ValueCodec.{ValueCodec}
use Rattle.netlink_core.specs.Codec.{KeepsCodecLaws, as_codec}
use Rattle.netlink_core.specs.laws.Prefix.{value_or_error}
use Rattle.netlink_core.specs.laws.ReplyObligations.{AttributeSpecLaws}
use Rattle.netlink_core.specs.AttributeSpecs.{whole_value_codec, attribute_spec}
use Rattle.netlink_core.specs.AttributeSpecs.{allocating_attribute_spec, number_attribute_spec}
use Rattle.netlink_core.specs.Parse.{number_of_width}
use Rattle.netlink_core.proofs.Numbers.{little_endian, number-same}

-- bytes are equal if the numbers of all of these bytes are equal
pub same_bytes : (n : ℕ) (x y : List ℕ) → IsBytes x → IsBytes y → length x ≡ n → length y ≡ n
    → little_number n x ≡ little_number n y → x ≡ y
same_bytes n x y x-in_range y-in_range s t e =
    grind (arith, take_all n x, number-same little_endian n x y x-in_range y-in_range, take_all n y)

-- the codec of a value that takes all bytes keeps the codec laws, if each accepted byte string is
-- the one that its value serializes to
pub whole_value_laws : {A : Type 0} (parses : List ℕ → Result A DecodeError) (bytes : A → List ℕ)
    (is_in_range is_normal : A → Type 0)
    → ((x : List ℕ) → parses x ≡ Err Memory → ⊥)
    → ((x : List ℕ) (u : A) → IsBytes x → parses x ≡ Ok u
    → (x ≡ bytes u) × is_in_range u × is_normal u)
    → ((u : A) → is_in_range u → IsBytes (bytes u))
    → ((u : A) → is_in_range u → is_normal u → parses (bytes u) ≡ Ok u)
    → KeepsCodecLaws (as_codec (whole_value_codec parses bytes is_in_range is_normal))
whole_value_laws parses bytes is_in_range is_normal named exact bytes_in_range back = record {
  is_total = λ b p in_range. value_or_error (parses b);
  is_exclusive = λ b p v e h k. cc;
  error_is_unique = λ b p e f h k. cc;
  error_is_not_memory = λ b p h. named b h;
  equal_iff_equivalent = λ b c p v w b-in_range c-in_range h k.
      grind (arith, exact b v b-in_range h, exact c w c-in_range k);
  parsed_is_normal = λ b p v in_range h. let read = exact b v in_range h in (read.1, read.2);
  serialized_in_range = bytes_in_range;
  round_trips = λ p v in_range normal room. back v in_range normal;
}

number_round_trips : (width n : ℕ) → n < 256 ^ width
    → little_number width (little_bytes width n) ≡ n
number_round_trips width n fits = rw append-nil at (little_number-reads_back width n [] fits)

-- an attribute type of numbers keeps its laws
pub number_attribute_laws : (k width : ℕ) → bit_and k 0x3fff ≡ k
    → AttributeSpecLaws (number_attribute_spec k width)
number_attribute_laws k width plain = record {
  plain = plain;
  value = whole_value_laws (number_of_width (Some k) width) (little_bytes width)
      (λ n. n < 256 ^ width)
      (λ n. ⊤) (λ x h. grind (arith, nat_tests)) (λ x n in_range h.
      let read : (length x ≡ width) × (little_number width x ≡ n) = grind (arith, nat_tests) in
      let fits : n < 256 ^ width = rw read.1 at (little_from-lt 0 width x in_range) in (
        same_bytes width x (little_bytes width n) in_range (IsBytes-number 0 width n) read.0
            (length-bytes_low_first 0 width n) (read.1 ∙ sym (number_round_trips width n fits)),
        fits,
        tt,
      ))
      (λ n fits. IsBytes-number 0 width n)
      (λ n fits normal.
      grind (arith, nat_tests, length-bytes_low_first 0 width n, number_round_trips width n fits));
}

-- an attribute type keeps its laws if the codec of its values keeps the codec laws
pub attribute_spec_laws : (k : ℕ) {P : ValueCodec (Unit {0})} → bit_and k 0x3fff ≡ k
    → KeepsCodecLaws (as_codec P)
    → AttributeSpecLaws (attribute_spec k P)
attribute_spec_laws k plain value = record { plain = plain; value = value }

pub allocating_attribute_spec_laws : (k : ℕ) {P : ValueCodec (Unit {0})} → bit_and k 0x3fff ≡ k
    → KeepsCodecLaws (as_codec P) → AttributeSpecLaws (allocating_attribute_spec k P)
allocating_attribute_spec_laws k plain value = record { plain = plain; value = value }

-- the laws of a set of attribute types: the laws of its first type, and the laws of the other types
infixr 4 ◌⊕◌
abbrev pub ◌⊕◌ : {A B : Type 0} → A → B → A × B
first ⊕ others = (first, others)
