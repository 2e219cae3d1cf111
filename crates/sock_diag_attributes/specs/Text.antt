-- A text as the value of an attribute. The arguments of `whole_value_codec` are, in this order: how
-- a value is parsed, how it is serialized, which values are in range, and which are in normal form.
use Rattle.std.specs.Prelude.{◌≡◌, ℕ, ◌⊎◌, List, [], ◌∷◌, ◌++◌, IsUtf8, ⊤}
use Rattle.netlink_core.specs.Bytes.{IsBytes}
use Rattle.netlink_core.specs.Parse.{parse_text}
use Rattle.netlink_core.specs.ValueCodec.{ValueCodec}
use Rattle.netlink_core.specs.AttributeSpecs.{whole_value_codec}

-- `AddsTerminatingNul left right`: `right` is `left` with one zero byte added at its end, and
-- `left` does not end in a zero byte (it is not `front ++ 0 ∷ []` for any `front`)
abbrev pub AddsTerminatingNul : List ℕ → List ℕ → Type 0
AddsTerminatingNul left right =
    ¬ ((front : List ℕ) × (left ≡ front ++ 0 ∷ [])) × (right ≡ left ++ 0 ∷ [])

-- The codec of a text, as the value of an attribute. A text is the value without one terminating
-- NUL, if it has one. It must be UTF-8 (else `NotUtf8`), and its model is its bytes. It always
-- serializes with one terminating NUL. Each text is in normal form (`⊤`). Only `equivalent` differs
-- from `whole_value_codec`: two values are equivalent if they are equal, or if one of them, left or
-- right, is the other one with a terminating NUL added. The parameter (`param`) is `tt`.
abbrev pub text_value : ValueCodec (Unit {0})
text_value = record (whole_value_codec parse_text (λ text. text ++ 0 ∷ [])
    (λ text. IsUtf8 text × IsBytes text) (λ text. ⊤)) {
      equivalent = λ param left right. (left ≡ right)
          ⊎ (AddsTerminatingNul left right ⊎ AddsTerminatingNul right left);
    }
