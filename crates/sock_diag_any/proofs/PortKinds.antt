-- Attributes of the kinds that the port decodes: no row of a table of the other kinds reads them.
use Rattle.std.proofs.Common.{◌≡◌, ◌==◌, ◌||◌, ◌&&◌, not, ℕ, List, [], ◌∷◌, inl, inr, refl}
use Rattle.std.proofs.Common.{Bool, true, false, Result, Ok, Err, arith}
use Rattle.netlink_core.specs.Attribute.{Attribute, attribute_kind}
use Rattle.netlink_core.specs.AttributeSet.{AttributeSet, AttributeValue}
use Rattle.netlink_core.specs.AttributeSet.{decode_attribute}
use Rattle.netlink_core.specs.declared.error.DecodeError.{DecodeError}
use Rattle.sock_diag_any.specs.AnyAgreement.{has_kind}
use Rattle.sock_diag_any.specs.AnyNla.{AnyValue, KindRow, read_by}

-- `has_row rows kind`: a row has this kind
abbrev has_row : List KindRow → ℕ → Bool
has_row [] kind = false
has_row (first ∷ later) kind = (kind == first.kind) || has_row later kind

-- `are_apart set rows`: no row has a kind of the set
abbrev are_apart : AttributeSet → List KindRow → Bool
are_apart [] rows = true
are_apart (spec ∷ others) rows = not (has_row rows spec.number) && are_apart others rows

-- An attribute of whose kind there is no row is read by what follows the rows.
read_without_row : (rows : List KindRow) (others : Attribute → Result AnyValue DecodeError)
    (a : Attribute)
    → has_row rows (attribute_kind a) ≡ false → read_by rows others a ≡ others a
read_without_row [] others a none = refl
read_without_row (first ∷ later) others a none =
    let after = read_without_row later others a in grind (arith)

-- There is no row of a kind of the set.
kind_without_row : (F : AttributeSet) (rows : List KindRow) (a : Attribute)
    → are_apart F rows ≡ true → has_kind F a ≡ true → has_row rows (attribute_kind a) ≡ false
kind_without_row [] rows a apart known = absurd (cc known)
kind_without_row (spec ∷ others) rows a apart known =
    let after = kind_without_row others rows a in grind (arith)

-- An attribute of a kind of the set is read by what follows the rows.
pub read_of_kind : (F : AttributeSet) (rows : List KindRow)
    (others : Attribute → Result AnyValue DecodeError) (a : Attribute)
    → are_apart F rows ≡ true → has_kind F a ≡ true → read_by rows others a ≡ others a
read_of_kind F rows others a apart known =
    read_without_row rows others a (kind_without_row F rows a apart known)

-- An attribute that the set rejects is of a kind of the set.
pub rejected_is_of_kind : (F : AttributeSet) (a : Attribute) (e : DecodeError)
    → decode_attribute F a ≡ Err e → has_kind F a ≡ true
rejected_is_of_kind [] a e h = absurd (cc h)
rejected_is_of_kind (spec ∷ others) a e h =
    let after = rejected_is_of_kind others a e in grind (arith)

-- `IsParsed set a v`: the value `v` is what its type parses the attribute `a` as
abbrev pub IsParsed : (F : AttributeSet) → Attribute → AttributeValue F → Type 0
IsParsed [] a v = v ≡ a
IsParsed (spec ∷ others) a (inl x) = spec.value.parses tt a.value ≡ Ok x
IsParsed (spec ∷ others) a (inr v) = IsParsed others a v

-- A decoded value is what its type parses.
pub decoded_is_parsed : (F : AttributeSet) (a : Attribute) (v : AttributeValue F)
    → decode_attribute F a ≡ Ok v → IsParsed F a v
decoded_is_parsed [] a v h = grind (arith)
decoded_is_parsed (spec ∷ others) a (inl x) h = grind (arith)
decoded_is_parsed (spec ∷ others) a (inr v) h =
    decoded_is_parsed others a v (grind (arith))
