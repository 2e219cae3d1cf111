-- Errors with their fields.
use Rattle.std.proofs.Common.{◌≡◌, ℕ, inl, inr, Result, Ok, Err, ap, sym}
use Rattle.std.specs.Prelude.{IfErr, IfOk, MatchOption, MatchResult}
use Rattle.std.specs.Result.{result_err}
use Rattle.netlink_core.specs.declared.error.DecodeError.{DecodeError}
use Rattle.netlink_core.specs.Errors.{error_code}
use Rattle.sockdiag_c.specs.ErrorDetails.{IsExplained, error_details_of}
use Rattle.sockdiag_c.specs.declared.error_details.ErrorDetails.{ErrorDetails}

-- a parse is explained
pub explained : {A V : Type 0} (parses : V → Type 0) (rejects : DecodeError → Type 0)
    (model : A → V) (r : Result A DecodeError) (old new : ErrorDetails) (answer : ℕ)
    → MatchResult r (λ _. (answer ≡ 0) × (new ≡ old))
    (λ e. (answer ≡ error_code e) × (new ≡ error_details_of e))
    → IfOk r (λ a. parses (model a)) → IfErr r rejects
    → IsExplained parses rejects (record { old = old; new = new; returned = answer })
explained parses rejects model (Ok a) old new answer how value error =
    inl ((model a, value), how.0, how.1)
explained parses rejects model (Err e) old new answer how value error =
    inr (e, error, how.0, how.1)

-- the error of a view
pub error_of_view : {A V : Type 0} (model : A → V) (r : Result A DecodeError)
    (decoded : Result V DecodeError) → IfOk r (λ view. decoded ≡ Ok (model view))
    → IfErr r (λ e. decoded ≡ Err e) → result_err r ≡ result_err decoded
error_of_view model (Ok view) decoded value error = sym (ap result_err value)
error_of_view model (Err e) decoded value error = sym (ap result_err error)

-- a view is explained by its error
pub explained_view : {A : Type 0} (old new : ErrorDetails) (answer : ℕ) (r : Result A DecodeError)
    → MatchResult r (λ _. (answer ≡ 0) × (new ≡ old))
    (λ e. (answer ≡ error_code e) × (new ≡ error_details_of e))
    → MatchOption (result_err r) ((answer ≡ 0) × (new ≡ old))
    (λ e. (answer ≡ error_code e) × (new ≡ error_details_of e))
explained_view old new answer (Ok x) how = how
explained_view old new answer (Err e) how = how
