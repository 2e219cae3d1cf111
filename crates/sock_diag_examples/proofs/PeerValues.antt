-- An attribute of each type in turn, and what it decodes to.
use Rattle.std.proofs.Common.{Some, Result, Ok, Err, ◌≡◌, ◌⊎◌, inl, inr, ℕ, List, length}
use Rattle.std.proofs.lemmas.Bool.{cases_eq, eq-eqb, ne_eqb}
use Rattle.byteorder.specs.Endian.{little_number}
use Rattle.netlink_core.specs.declared.error.DecodeError.{DecodeError}
use Rattle.netlink_core.specs.Attribute.{Attribute, attribute_kind}
use Rattle.netlink_core.specs.AttributeSet.{value_as_decoded, decode_attribute}
use Rattle.netlink_core.specs.Errors.{map_ok}
use Rattle.netlink_core.specs.Parse.{number_of_width}
use Rattle.sock_diag_attributes.specs.UnixAttributes.{unix_attribute_set}

-- an attribute of the first type decodes to a value on the left, and any other on the right
module _ {A B : Type 0} where
  abbrev as_left : A → A ⊎ B
  as_left x = inl x

  abbrev as_right : B → A ⊎ B
  as_right y = inr y

  -- a value on the left was parsed by the first type, and a value on the right was not
  was_one : (read : Result A DecodeError) (x : A) → map_ok as_left read ≡ Ok (as_left x)
      → read ≡ Ok x
  was_one (Ok u) x h = cc
  was_one (Err e) x h = absurd cc

  not_one : (read : Result A DecodeError) (y : B) → map_ok as_left read ≡ Ok (as_right y) → ⊥
  not_one (Ok u) y h = cc
  not_one (Err e) y h = cc

  -- a value on the right was parsed by the later types, and a value on the left was not
  was_other : (read : Result B DecodeError) (y : B) → map_ok as_right read ≡ Ok (as_right y)
      → read ≡ Ok y
  was_other (Ok u) y h = cc
  was_other (Err e) y h = absurd cc

  not_other : (read : Result B DecodeError) (x : A) → map_ok as_right read ≡ Ok (as_left x) → ⊥
  not_other (Ok u) x h = cc
  not_other (Err e) x h = cc

-- a number has exactly `width` bytes, and is little-endian
number_there : (k width n : ℕ) (value : List ℕ) → number_of_width (Some k) width value ≡ Ok n
    → (length value ≡ width) × (n ≡ little_number width value)
number_there k width n value h = elim (cases_eq (length value) width) [
  | inl same ↦ (
    same,
    let read : Ok (little_number width value)
        ≡ Ok n = rw (eq-eqb (length value) width same) at h in cc,
  )
  | inr differs ↦ absurd (let refused = rw (ne_eqb (length value) width differs) at h in cc)
]

-- an attribute that decodes to a peer has type 2, and its value is the inode of the peer
pub peer_value : (a : Attribute) (n : ℕ)
    → decode_attribute unix_attribute_set a ≡ Ok (value_as_decoded unix_attribute_set 2 n)
    → (attribute_kind a ≡ 2)
    × (length a.value ≡ 4) × (n ≡ little_number 4 a.value)
peer_value a n h =
    elim (cases_eq (attribute_kind a) 0) [
      | inl zero ↦ absurd (not_one _ _ (rw (eq-eqb (attribute_kind a) 0 zero) at h))
      | inr not_0 ↦
          let at_1 = was_other _ _ (rw (ne_eqb (attribute_kind a) 0 not_0) at h) in
          elim (cases_eq (attribute_kind a) 1) [
            | inl one ↦ absurd (not_one _ _ (rw (eq-eqb (attribute_kind a) 1 one) at at_1))
            | inr not_1 ↦
                let at_2 = was_other _ _ (rw (ne_eqb (attribute_kind a) 1 not_1) at at_1) in
                elim (cases_eq (attribute_kind a) 2) [
                  | inl two ↦
                      let number = number_there 2 4 n a.value
                      (was_one _ _ (rw (eq-eqb (attribute_kind a) 2 two) at at_2)) in
                      (two, number.0, number.1)
                  | inr not_2 ↦ absurd (not_other
                      _ _ (rw (ne_eqb (attribute_kind a) 2 not_2) at at_2))
                ]
          ]
    ]
