-- The attributes of UNIX and internet sockets are rejected as the codecs of replies reject them.
use Rattle.std.proofs.Common.{◌≡◌, Result, Ok, Err, refl}
use Rattle.std.specs.Result.{result_err}
use Rattle.netlink_core.specs.Attribute.{Attribute}
use Rattle.netlink_core.specs.AttributeSet.{AttributeSet, AttributeValue, decode_attribute}
use Rattle.netlink_core.specs.declared.error.DecodeError.{DecodeError}
use Rattle.std.proofs.Common.{true}
use Rattle.sock_diag_any.specs.AnyAgreement.{has_kind}
use Rattle.sock_diag_any.specs.AnyNla.{AnyValue, read_any, unknown}
use Rattle.sock_diag_any.specs.declared.nla.Sockets.{Sockets}
use Rattle.sockdiag_c.specs.CheckedKinds.{read_checked}

module _ (F : AttributeSet) (s : Sockets) where
  error_by_cases : (a : Attribute) (decoded : Result (AttributeValue F) DecodeError)
      → decode_attribute F a ≡ decoded
      → result_err (read_checked F s a) ≡ result_err (decode_attribute F a)
  error_by_cases a (Err e) h = rw h refl
  error_by_cases a (Ok v) h = rw h refl

  -- an attribute is rejected with the error of the codec
  pub error_is : (a : Attribute)
      → result_err (read_checked F s a) ≡ result_err (decode_attribute F a)
  error_is a = error_by_cases a (decode_attribute F a) refl

  -- the codec rejects the attribute
  pub rejected : (a : Attribute) (e : DecodeError) → decode_attribute F a ≡ Err e
      → Err e ≡ read_checked F s a
  rejected a e h = rw h refl

  -- the codec does not reject an attribute with an invalid value
  pub unchecked : (a : Attribute) (e : DecodeError) (v : AttributeValue F) → read_any s a ≡ Err e
      → decode_attribute F a ≡ Ok v → Ok (unknown a) ≡ read_checked F s a
  unchecked a e v r h = rw (h, r) refl

  module _ (errors : (a : Attribute) (e : DecodeError) → decode_attribute F a ≡ Err e
      → (has_kind F a ≡ true) × (read_any s a ≡ Err e)) where
    valid_by_cases : (a : Attribute) (value : AnyValue)
        (decoded : Result (AttributeValue F) DecodeError) → decode_attribute F a ≡ decoded
        → read_any s a ≡ Ok value → Ok value ≡ read_checked F s a
    valid_by_cases a value (Err e) h r = let error = errors a e h in absurd (cc (error.1, r))
    valid_by_cases a value (Ok v) h r = rw (h, r) refl

    -- the value is valid
    pub valid : (a : Attribute) (value : AnyValue) → read_any s a ≡ Ok value
        → Ok value ≡ read_checked F s a
    valid a value = valid_by_cases a value (decode_attribute F a) refl
