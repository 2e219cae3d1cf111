-- The attribute iterator returns the pieces of its bytes.
use Rattle.std.proofs.Common.{Ok, Err, ◌≡◌, ◌≢◌, ℕ, zero, suc, ◌+◌}
use Rattle.std.proofs.Common.{◌-◌, List, [], ◌∷◌, ◌++◌, length, take, drop, inl}
use Rattle.std.proofs.Common.{inr, refl, sym, ap, ◌∙◌, append_assoc, arith}
use Rattle.std.proofs.lemmas.List.{drop_at, drop_all, length-append}
use Rattle.std.proofs.lemmas.Bool.{lt-ltb, le-ltb}
use Rattle.byteorder.specs.Endian.{little_number}
use Rattle.netlink_core.specs.Attribute.{Attribute, IsFramingError, StartsWithAttribute}
use Rattle.netlink_core.specs.Attribute.{padding_length, header_and_value}
use Rattle.netlink_core.specs.laws.Prefix.{length_field_counts}
use Rattle.netlink_core.specs.declared.error.DecodeError.{DecodeError}
use Rattle.netlink_core.specs.declared.error.DecodeError.TheVariants.{AttributeHeaderCut}
use Rattle.netlink_core.specs.declared.error.DecodeError.TheVariants.{AttributeLengthUnder4}
use Rattle.netlink_core.specs.declared.error.DecodeError.TheVariants.{AttributeLengthPast}
use Rattle.netlink_core.proofs.Iterating.{StartsWithAttribute-nonempty, attribute_prefix_of_start}
use Rattle.attribute_lists.specs.AttributesIn.{attributes_after}
use Rattle.attribute_lists.proofs.FirstAttribute.{first_attribute_is_found}
use Rattle.sock_diag_any.specs.Pieces.{AttributeOrError, before_error}
use Rattle.sock_diag_any.specs.Pieces.{first_attribute_or_error, attributes_or_error}

-- The pieces after `n` bytes are the pieces of the remaining bytes.
attributes_or_error_after_drop : (n : ℕ) (bytes : List ℕ)
    → attributes_or_error n bytes ≡ attributes_or_error 0 (drop n bytes)
unfolding attributes_or_error
attributes_or_error_after_drop zero [] = refl
attributes_or_error_after_drop zero (b ∷ bs) = refl
attributes_or_error_after_drop (suc n) [] = refl
attributes_or_error_after_drop (suc n) (b ∷ bs) = attributes_or_error_after_drop n bs

-- the attribute at the start of the bytes, by its length field and its type field
abbrev leading_attribute : List ℕ → Attribute
leading_attribute bytes = record {
  type_word = little_number 2 (drop 2 bytes);
  value = take (little_number 2 bytes - 4) (drop 4 bytes);
}

-- The attribute that the bytes start with is the leading one.
first_attribute_is : (bytes rest : List ℕ) (a : Attribute) → StartsWithAttribute bytes a rest
    → leading_attribute bytes ≡ a
unfolding attributes_after
first_attribute_is [] rest a s = absurd (StartsWithAttribute-nonempty [] rest a s refl)
first_attribute_is (b ∷ bs) rest a s = let found = first_attribute_is_found (b ∷ bs) rest a s in cc

-- The length field counts four bytes and the value, and the bytes have the attribute and the rest.
length_field_of_first : (bytes rest : List ℕ) (a : Attribute) (s : StartsWithAttribute bytes a rest)
    → (little_number 2 bytes ≡ 4 + length a.value)
    × (length bytes ≡ 4 + length a.value + (length s.padding + length rest))
length_field_of_first bytes rest a s = (
  (length_field_counts bytes a (attribute_prefix_of_start bytes rest a s)).0,
  ap length s.parts ∙ length-append (header_and_value a) (s.padding ++ rest)
      ∙ omega (arith, length-append s.padding rest),
)

-- The attribute that the bytes start with is the first piece.
first_attribute_is_listed : (bytes rest : List ℕ) (a : Attribute) → StartsWithAttribute bytes a rest
    → first_attribute_or_error bytes ≡ Ok a
first_attribute_is_listed bytes rest a s =
    let sizes = length_field_of_first bytes rest a s in
    rw (
      le-ltb (length bytes) 4 (omega (arith, sizes)),
      le-ltb (little_number 2 bytes) 4 (omega (arith, sizes)),
      le-ltb (length bytes) (little_number 2 bytes) (omega (arith, sizes)),
    )
    (ap Ok (first_attribute_is bytes rest a s))

-- The bytes after the attribute and its padding are the rest.
rest_is : (bytes rest : List ℕ) (a : Attribute) → StartsWithAttribute bytes a rest
    → drop (little_number 2 bytes + padding_length (little_number 2 bytes)) bytes ≡ rest
rest_is bytes rest a s =
    let sizes = length_field_of_first bytes rest a s in
    let front : List ℕ = header_and_value a ++ s.padding in
    let parts : bytes ≡ front ++ rest =
    s.parts ∙ sym (append_assoc (header_and_value a) s.padding rest) in
    let long : length front ≡ 4 + length a.value + length s.padding =
    length-append (header_and_value a) s.padding ∙ omega arith in
    let n : ℕ = little_number 2 bytes + padding_length (little_number 2 bytes) in
    elim s.filled [
      | inl full ↦ ap (drop n) parts ∙ drop_at front rest n (omega (arith, full, sizes.0, long))
      | inr short ↦
          let none : length rest ≡ 0 = ap length short.1 in
          drop_all n bytes (omega (arith, short.0, sizes, none)) ∙ sym short.1
    ]

-- The pieces are the attribute that the bytes start with, and the pieces of the rest.
pub first_attribute_and_rest : (bytes rest : List ℕ) (a : Attribute)
    → StartsWithAttribute bytes a rest
    → attributes_or_error 0 bytes ≡ Ok a ∷ attributes_or_error 0 rest
unfolding attributes_or_error
first_attribute_and_rest [] rest a s = absurd (StartsWithAttribute-nonempty [] rest a s refl)
first_attribute_and_rest (b ∷ bs) rest a s =
    let all : List ℕ = b ∷ bs in
    let nla_len : ℕ = little_number 2 all in
    let n : ℕ = nla_len + padding_length nla_len - 1 in
    let next : suc n ≡ nla_len + padding_length nla_len =
    omega (arith, length_field_of_first all rest a s) in
    let is_rest : drop n bs ≡ rest = ap (λ (k : ℕ). drop k all) next ∙ rest_is all rest a s in
    let later : attributes_or_error n bs ≡ attributes_or_error 0 rest =
    attributes_or_error_after_drop n bs ∙ ap (attributes_or_error 0) is_rest in
    ap (λ (p : AttributeOrError). before_error p (attributes_or_error n bs))
    (first_attribute_is_listed all rest a s)
    ∙ ap (λ (l : List AttributeOrError). Ok a ∷ l) later

-- The error of the first attribute is the first piece.
first_error_is_listed : (bytes : List ℕ) (e : DecodeError) → IsFramingError bytes e
    → first_attribute_or_error bytes ≡ Err e
first_error_is_listed bytes (AttributeHeaderCut left) f =
    rw (lt-ltb (length bytes) 4 f.1, f.0) refl
first_error_is_listed bytes (AttributeLengthUnder4 nla_len) (is, long, short) =
    rw (le-ltb (length bytes) 4 long, ← is, lt-ltb nla_len 4 short) refl
first_error_is_listed bytes (AttributeLengthPast nla_len left) (is, same, long, whole, past) =
    rw (
      le-ltb (length bytes) 4 long,
      ← is,
      le-ltb nla_len 4 whole,
      lt-ltb (length bytes) nla_len past,
      same,
    ) refl
first_error_is_listed bytes _ f = absurd f

-- After an error no piece follows.
pub error_is_alone : (bytes : List ℕ) (e : DecodeError) → bytes ≢ [] → IsFramingError bytes e
    → attributes_or_error 0 bytes ≡ Err e ∷ []
unfolding attributes_or_error
error_is_alone [] e some f = absurd (some refl)
error_is_alone (b ∷ bs) e some f = rw (first_error_is_listed (b ∷ bs) e f) refl

-- No bytes have no pieces.
pub no_attributes_of_no_bytes : attributes_or_error 0 [] ≡ []
unfolding attributes_or_error
no_attributes_of_no_bytes = refl

-- the cases of one step of the iterator
pub ruleset iterator_step_rules =
    (first_attribute_and_rest, error_is_alone, no_attributes_of_no_bytes)
