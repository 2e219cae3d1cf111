-- What follows from a test whether a result is an error.
use Rattle.std.proofs.Common.{◌≡◌, Bool, true, false, Result, IsOk, OnOk, arith}
use Rattle.std.specs.Result.{is_err}

-- a result that is not an error has the property of `Ok` results
pub on_no_error : {T E P : Type 0} (r : Result T E) (is_error : Bool)
    → is_error ≡ false → is_error ≡ is_err r → OnOk r P → P
on_no_error r is_error good test fact = grind arith

-- a result that is an error has no value
pub error_is_no_value : {T E : Type 0} (r : Result T E) (is_error : Bool)
    → is_error ≡ true → is_error ≡ is_err r → IsOk r → ⊥
error_is_no_value r is_error bad test ok = grind arith
