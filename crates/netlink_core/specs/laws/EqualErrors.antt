-- `==` of decode errors and of errors of `canonical` decides whether they are equal.
use Rattle.std.proofs.Common.{◌≡◌, ◌↔◌, IsTrue, T, eqb, subst, rules, arith}
use Rattle.netlink_core.specs.laws.Equality.{false_decides}
use Rattle.netlink_core.specs.Errors.{error_code}
use Rattle.netlink_core.specs.declared.canonical_form.CanonError.{CanonError}
use Rattle.netlink_core.specs.declared.canonical_form.CanonError.TheVariants as canon
use Rattle.netlink_core.specs.declared.error.DecodeError.{DecodeError}
use Rattle.netlink_core.specs.declared.error.DecodeError.TheVariants as error
use Rattle.netlink_core.specs.contracts.canonical_form.CanonErrorPartialEq.TheImpl.{
  ghosts as of_canon,
}
use Rattle.netlink_core.specs.declared.error.RecordName.{RecordName}
use Rattle.netlink_core.specs.contracts.error.RecordNamePartialEq.TheImpl.{ghosts as of_name}
use Rattle.netlink_core.specs.contracts.error.DecodeErrorPartialEq.TheImpl.{ghosts}

-- A lemma of its own: as a part of the equality of two errors it takes three times as long.
record_name_equal : (a x : RecordName) → IsTrue (of_name.eq a x) ↔ (a ≡ x)
record_name_equal = search rules

pub decode_error_equal : (e f : DecodeError) → IsTrue (ghosts.eq e f) ↔ (e ≡ f)
decode_error_equal error.Memory error.Memory = search rules
decode_error_equal (error.BufferTooSmall a b c) (error.BufferTooSmall x y z) =
    grind (arith, record_name_equal a x)
decode_error_equal (error.UnsupportedFamily a) (error.UnsupportedFamily x) = search rules
decode_error_equal (error.MessageTooShort a) (error.MessageTooShort x) = search rules
decode_error_equal (error.UnknownFamily a) (error.UnknownFamily x) = search rules
decode_error_equal (error.UnknownMessageType a) (error.UnknownMessageType x) = search rules
decode_error_equal (error.AttributeHeaderCut a) (error.AttributeHeaderCut x) = search rules
decode_error_equal (error.AttributeLengthUnder4 a) (error.AttributeLengthUnder4 x) = search rules
decode_error_equal (error.AttributeLengthPast a b) (error.AttributeLengthPast x y) = search rules
decode_error_equal (error.WrongLength a b c) (error.WrongLength x y z) = search rules
decode_error_equal (error.NotMultipleOfFour a) (error.NotMultipleOfFour x) = search rules
decode_error_equal error.NotUtf8 error.NotUtf8 = search rules
decode_error_equal error.NameEmpty error.NameEmpty = search rules
decode_error_equal (error.NameInnerZero a) (error.NameInnerZero x) = search rules
decode_error_equal error.NameWithoutEnd error.NameWithoutEnd = search rules
decode_error_equal (error.EnvelopeCut a) (error.EnvelopeCut x) = search rules
decode_error_equal (error.EnvelopeLengthUnder16 a) (error.EnvelopeLengthUnder16 x) = search rules
decode_error_equal (error.EnvelopeLengthPast a b) (error.EnvelopeLengthPast x y) = search rules
decode_error_equal e f =
    false_decides (λ p. subst (λ (g : DecodeError). T (eqb (error_code e) (error_code g))) p tt)

pub error_equal : (v w : CanonError) → IsTrue (of_canon.eq v w) ↔ (v ≡ w)
error_equal (canon.Refused a) (canon.Refused b) =
    grind (arith, decode_error_equal a b)
error_equal canon.Unwritable canon.Unwritable = search rules
error_equal canon.Memory canon.Memory = search rules
error_equal v w = false_decides (λ p. cc)
