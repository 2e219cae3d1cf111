-- Decode errors: their codes, and results that may be decode errors.
use Rattle.std.specs.Prelude.{ℕ, Some, None, Result}
use Rattle.std.specs.Result.{result_map_both}
use Rattle.netlink_core.specs.declared.error.DecodeError.{DecodeError}
use Rattle.netlink_core.specs.declared.error.DecodeError.TheVariants as errors

-- `error_code error`: the code of the error: its position among the variants of `DecodeError`, from
-- 1 on. Except for `Memory`, include/sockdiag.h has the code as `SOCKDIAG_` and the name of the
-- error. 2 to 6 are errors of records and messages; 7 to 9 of the framing of attributes; 10 to 15
-- of values of attributes; 16 to 18 of netlink headers.
abbrev pub error_code : DecodeError → ℕ
error_code errors.Memory = 1
error_code (errors.BufferTooSmall which got need) = 2
error_code (errors.UnsupportedFamily family) = 3
error_code (errors.MessageTooShort got) = 4
error_code (errors.UnknownFamily family) = 5
error_code (errors.UnknownMessageType message_type) = 6
error_code (errors.AttributeHeaderCut left) = 7
error_code (errors.AttributeLengthUnder4 len) = 8
error_code (errors.AttributeLengthPast len left) = 9
error_code (errors.WrongLength kind got need) = 10
error_code (errors.NotMultipleOfFour got) = 11
error_code errors.NotUtf8 = 12
error_code errors.NameEmpty = 13
error_code (errors.NameInnerZero index) = 14
error_code errors.NameWithoutEnd = 15
error_code (errors.EnvelopeCut got) = 16
error_code (errors.EnvelopeLengthUnder16 len) = 17
error_code (errors.EnvelopeLengthPast len got) = 18

-- `with_missing_kind kind e`: if the error `e` is a `WrongLength` without a kind, this error with
-- the kind; any other error is unchanged
abbrev pub with_missing_kind : (kind : ℕ) → DecodeError → DecodeError
with_missing_kind kind (errors.WrongLength None got need) =
    errors.WrongLength (Some kind) got need
with_missing_kind kind other = other

-- `map_ok convert result`: `Ok (convert v)` if the result is `Ok v`; an error is unchanged
abbrev pub map_ok : {A B : Type 0} → (A → B) → Result A DecodeError → Result B DecodeError
map_ok convert result = result_map_both convert (λ error. error) result
