-- What a check stores.
use Rattle.std.proofs.Common.{◌≡◌, ◌∙◌, ℕ, inl, inr, Result, Ok, Err, subst}
use Rattle.std.specs.Prelude.{IfErr, IfOk, MatchResult}
use Rattle.std.specs.Result.{IsOkAnd}
use Rattle.netlink_core.specs.declared.error.DecodeError.{DecodeError}
use Rattle.netlink_core.specs.Errors.{error_code}
use Rattle.sockdiag_c.specs.Answers.{IsCheckResult}

-- the part of what was parsed is stored
pub checked : {A V T : Type 0} (parses : V → Type 0) (rejects : DecodeError → Type 0)
    (model : A → V) (part : V → T) (Made : A → T → Type 0)
    (made : (a : A) (t : T) → Made a t → t ≡ part (model a))
    (r : Result A DecodeError) (found : Result T DecodeError) (old new : T) (answer : ℕ)
    → IfOk r (λ a. parses (model a)) → IfErr r rejects
    → MatchResult r (λ a. IsOkAnd found (Made a)) (λ e. found ≡ Err e)
    → MatchResult found (λ t. (answer ≡ 0) × (new ≡ t)) (λ e. (answer ≡ error_code e) × (new ≡ old))
    → IsCheckResult {V = V} {T = T} (record { parses = parses; rejects = rejects; found = part })
    (record { old = old; new = new; returned = answer })
checked parses rejects model part Made made (Ok a) (Ok t) old new answer value error how stored =
    inl (stored.0, (model a, value, stored.1 ∙ made a t how))
checked parses rejects model part Made made (Ok a) (Err e) old new answer value error how stored =
    absurd how
checked {T} parses rejects model part Made made (Err e) found old new answer value error how
    stored =
    let it = subst (λ (f : Result T DecodeError). MatchResult f (λ t. (answer ≡ 0) × (new ≡ t))
    (λ e. (answer ≡ error_code e) × (new ≡ old))) how stored in
    inr (e, error, it.0, it.1)
