use Rattle.std.proofs.Common.{◌≡◌, ℕ, zero, suc, List, [], ◌∷◌, map, length, Some, refl, subst}
use Rattle.std.specs.List.{AllByRecursion, slice_get}
use Rattle.std.proofs.lemmas.Option.{slice_get_read}
use Rattle.std.proofs.lemmas.Result.{err_from_is_err_and}
use Rattle.sock_diag_examples.specs.UnixResponseModel.{unix_response_model}
use Rattle.sock_diag_examples.specs.TestKernel.{IsWritableReplyMessage}
use Rattle.sock_diag_examples.specs.private.TestKernel.{FailsUnless}
use Rattle.sock_diag_examples.specs.declared.test_kernel.AnswerError.{AnswerError}
use Rattle.sock_diag_examples.specs.declared.test_kernel.AnswerError.TheVariants as errors
use Rattle.sock_diag_examples.proofs.test_kernel.push_replies.Goals as goal

-- a property of all elements holds of one
holds_at : {A B : Type 0} (P : B → Type 0) (made : A → B) (xs : List A) (i : ℕ) (x : A)
    → slice_get xs i ≡ Some x → AllByRecursion P (map made xs) → P (made x)
holds_at P made [] i x e all = absurd cc
holds_at P made (y ∷ xs) zero x e all = let same : y ≡ x = cc in subst (λ z. P (made z)) same all.0
holds_at P made (y ∷ xs) (suc i) x e all = holds_at P made xs i x e all.1

-- if the message of one reply is too long, not all are writable
of_one : {One All : Type 0} (e : AnswerError) → (All → One) → FailsUnless One e
    → FailsUnless All e
of_one (errors.Request error) each none = none
of_one errors.Unwritable each none = λ all. none (each all)
of_one errors.Memory each none = tt

pub returns-in_err-push_reply-clause-err : goal.returns-in_err-push_reply-clause-err
returns-in_err-push_reply-clause-err c =
    let p = err_from_is_err_and c.from_residual.result c.from_residual.ensures.1 in
    rw (p.1, p.2) (of_one c.in_err-push_reply.field-0.0
    (holds_at IsWritableReplyMessage unix_response_model c.args.replies.now c.loop-reply.reply-index
    c.reply-item.result
    (slice_get_read c.args.replies.now (length c.args.replies.now) c.loop-reply.reply-index
    c.reply-item.result refl c.loop-reply-test.true c.reply-item.is))
    c.in_err-push_reply.ensures.err)
