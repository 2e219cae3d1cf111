-- Iterating over the attributes in bytes.
use Rattle.std.proofs.Common.{Result, Ok, Err, ◌≡◌, ◌≢◌, ℕ, inl, inr, List, [], ◌∷◌, ◌++◌, refl}
use Rattle.std.proofs.Common.{arith, append_assoc}
use Rattle.std.proofs.lemmas.List.{append-nil}
use Rattle.netlink_core.specs.declared.error.DecodeError.{DecodeError}
use Rattle.netlink_core.specs.Attribute.{Attribute, StartsWithAttribute, HasAttributePrefix}
use Rattle.netlink_core.specs.Attribute.{SplitsUntilError, IsFramingError, IsFirstAttributeError}
use Rattle.netlink_core.specs.Attribute.{DecodeTo, HasAttributeError}

pub StartsWithAttribute-nonempty : (bytes rest : List ℕ) (a : Attribute)
    → StartsWithAttribute bytes a rest → bytes ≢ []
StartsWithAttribute-nonempty bytes rest a s none = cc (s.parts, none)

pub attribute_prefix_of_start : (bytes rest : List ℕ) (a : Attribute)
    → StartsWithAttribute bytes a rest
    → HasAttributePrefix bytes a
attribute_prefix_of_start bytes rest a s = (s.padding ++ rest, s.parts, s.fits)

-- an attribute before attributes that end with an error adds to these attributes
pub error_after_attribute : (faulty : List ℕ → DecodeError
    → Type 0) (bytes rest : List ℕ) (a : Attribute)
    (given : List Attribute) (e : DecodeError)
    → StartsWithAttribute bytes a rest → SplitsUntilError faulty rest given e
    → SplitsUntilError faulty bytes (a ∷ given) e
error_after_attribute faulty bytes rest a given e s (left, cut, some, error) =
    (left, (rest, s, cut), some, error)

module _ {A : Type 0} (parses : Attribute → Result A DecodeError) where
  -- The values `so_far` have been parsed, and the bytes `rest` remain: the values of all bytes are
  -- `so_far` and then the values of `rest`, and an error of `rest` is the error of all bytes.
  pub record DecodedSoFar (bytes : List ℕ) (so_far : List A) (rest : List ℕ) : Type 0 where
    pub mean : (later : List A) → DecodeTo parses rest later
        → DecodeTo parses bytes (so_far ++ later)
    pub error : (e : DecodeError) → HasAttributeError parses rest e
        → HasAttributeError parses bytes e

  -- an error after an attribute that parses is an error of the bytes with this attribute
  pub error_of_rest : (bytes rest : List ℕ) (a : Attribute) (meaning : A) (e : DecodeError)
      → StartsWithAttribute bytes a rest → parses a ≡ Ok meaning → HasAttributeError parses rest e
      → HasAttributeError parses bytes e
  error_of_rest bytes rest a meaning e s means f = (
    a ∷ f.0,
    error_after_attribute (IsFirstAttributeError parses) bytes rest a f.0 e s f.1,
    (rw means refl, f.2),
  )

  -- at the start all bytes remain
  pub nothing_decoded_yet : (bytes : List ℕ) → DecodedSoFar bytes [] bytes
  nothing_decoded_yet bytes = record { mean = λ later m. m; error = λ e f. f }

  -- the next attribute adds its value
  pub next_attribute_decoded : (bytes rest after : List ℕ) (so_far : List A) (a : Attribute)
      (meaning : A)
      → DecodedSoFar bytes so_far rest → StartsWithAttribute rest a after → parses a ≡ Ok meaning
      → DecodedSoFar bytes (so_far ++ meaning ∷ []) after
  next_attribute_decoded bytes rest after so_far a meaning walk s means = record {
    mean = λ later m. rw append_assoc
        (walk.mean (meaning ∷ later) (a ∷ m.0, (after, s, m.1), (means, m.2)));
    error = λ e f. walk.error e (error_of_rest rest after a meaning e s means f);
  }

  -- the values so far are the values of all bytes, if no bytes remain
  pub all_attributes_decoded : (bytes rest : List ℕ) (so_far : List A)
      → DecodedSoFar bytes so_far rest → rest ≡ []
      → DecodeTo parses bytes so_far
  all_attributes_decoded bytes rest so_far walk none =
      rw append-nil at (walk.mean [] ([], none, tt))

  -- an error of the first attribute is the error of the bytes
  pub error_of_first_attribute : (rest : List ℕ) (e : DecodeError) → rest ≢ []
      → IsFirstAttributeError parses rest e
      → HasAttributeError parses rest e
  error_of_first_attribute rest e some f = ([], (rest, refl, some, f), tt)

  -- an error of the framing or of a value is the error of all bytes
  pub framing_error_of_all : (bytes rest : List ℕ) (so_far : List A) (e : DecodeError)
      → DecodedSoFar bytes so_far rest → rest ≢ [] → IsFramingError rest e
      → HasAttributeError parses bytes e
  framing_error_of_all bytes rest so_far e walk some f =
      walk.error e (error_of_first_attribute rest e some (inl f))

  pub value_error_of_all : (bytes rest after : List ℕ) (so_far : List A) (a : Attribute)
      (e : DecodeError) → DecodedSoFar bytes so_far rest → StartsWithAttribute rest a after
      → parses a ≡ Err e
      → HasAttributeError parses bytes e
  value_error_of_all bytes rest after so_far a e walk s refused =
      grind (
        arith,
        error_of_first_attribute rest e (StartsWithAttribute-nonempty rest after a s) (inr (
          a,
          attribute_prefix_of_start rest after a s,
          refused,
        )),
        StartsWithAttribute-nonempty rest after a s,
        attribute_prefix_of_start rest after a s,
      )

-- the invariant of a loop over attributes, and what it yields at the end
pub ruleset attribute_loop_rules = (
  nothing_decoded_yet,
  next_attribute_decoded,
  all_attributes_decoded,
  framing_error_of_all,
  value_error_of_all,
)
