-- The framing error of bytes is the last of their pieces.
use Rattle.std.proofs.Common.{◌≡◌, ◌≢◌, ◌∙◌, ℕ, List, [], ◌∷◌, inl, inr, Some, None, ap}
use Rattle.std.proofs.Common.{Result, Ok, Err, refl, sym}
use Rattle.std.specs.Prelude.{IfOk, IfErr}
use Rattle.netlink_core.specs.Attribute.{Attribute, HasAttributeError, IsFramingError}
use Rattle.netlink_core.specs.Attribute.{SplitsIntoAttributes}
use Rattle.netlink_core.specs.AttributeSet.{decode_attribute}
use Rattle.netlink_core.specs.Bytes.{IsBytes}
use Rattle.netlink_core.specs.Errors.{map_ok}
use Rattle.netlink_core.specs.declared.error.DecodeError.{DecodeError}
use Rattle.netlink_core.proofs.Splitting.{decoded_or_error}
use Rattle.attribute_lists.specs.AttributesIn.{HasNoAttributeError}
use Rattle.sock_diag_any.specs.AnyNla.{framed}
use Rattle.sock_diag_extras.specs.Models.{nested_bytes}
use Rattle.sock_diag_any.specs.Pieces.{framing_error_of, pieces_in}
use Rattle.sock_diag_extras.specs.declared.nested.NestedNlas.{NestedNlas}
use Rattle.sock_diag_any.proofs.PieceWalk.{error_is_alone, first_attribute_and_rest}
use Rattle.sock_diag_any.proofs.PieceWalk.{no_attributes_of_no_bytes}

-- Bytes that consist of attributes have no framing error.
no_error_of_attributes : (bytes : List ℕ) (attributes : List Attribute)
    → SplitsIntoAttributes bytes attributes [] → framing_error_of (pieces_in bytes) ≡ None
no_error_of_attributes bytes [] none = rw (none, no_attributes_of_no_bytes) refl
no_error_of_attributes bytes (a ∷ later) (after, start, split) =
    ap framing_error_of (first_attribute_and_rest bytes after a start)
    ∙ no_error_of_attributes after later split

-- The error after attributes is the framing error of the bytes.
error_after_attributes : (bytes rest : List ℕ) (attributes : List Attribute) (e : DecodeError)
    → SplitsIntoAttributes bytes attributes rest → rest ≢ [] → IsFramingError rest e
    → framing_error_of (pieces_in bytes) ≡ Some e
error_after_attributes bytes rest [] e same some error =
    rw (same, error_is_alone rest e some error) refl
error_after_attributes bytes rest (a ∷ later) e (after, start, split) some error =
    ap framing_error_of (first_attribute_and_rest bytes after a start)
    ∙ error_after_attributes after rest later e split some error

-- Bytes without an error consist of attributes.
framed_without_error : (bytes : List ℕ) → IsBytes bytes
    → HasNoAttributeError (decode_attribute []) bytes → framed bytes ≡ Ok bytes
unfolding framed
framed_without_error bytes is_bytes clean =
    elim (decoded_or_error (decode_attribute []) bytes is_bytes) [
      | inl (values, (attributes, split, same)) ↦
          rw (no_error_of_attributes bytes attributes split) refl
      | inr (e, wrong) ↦ absurd (clean.none e wrong)
    ]

-- An error of raw attributes is their framing error.
framed_with_error : (bytes : List ℕ) (e : DecodeError)
    → HasAttributeError (decode_attribute []) bytes e → framed bytes ≡ Err e
unfolding framed
framed_with_error bytes e (attributes, (rest, split, some, error), good) = elim error [
  | inl framing ↦ rw (error_after_attributes bytes rest attributes e split some framing) refl
  | inr (a, prefix, wrong) ↦ absurd cc
]

-- Nested attributes are borrowed if and only if the bytes consist of attributes.
pub nested_is_framed : (bytes : List ℕ) → IsBytes bytes → (result : Result NestedNlas DecodeError)
    → IfOk result (λ nested. nested_bytes nested ≡ bytes)
    → IfErr result (HasAttributeError (decode_attribute []) bytes)
    → map_ok nested_bytes result ≡ framed bytes
nested_is_framed bytes is_bytes (Ok nested) kept error =
    ap Ok kept ∙ sym (framed_without_error bytes is_bytes (rw kept at nested.framed))
nested_is_framed bytes is_bytes (Err e) kept error = sym (framed_with_error bytes e error)
