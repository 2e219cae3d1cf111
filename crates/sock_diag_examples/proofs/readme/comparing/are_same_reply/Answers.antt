use Rattle.std.proofs.Common.{arith, inr}
use Rattle.std.proofs.lemmas.Result.{err_from_is_err_and}
use Rattle.sock_diag_replies.specs.ViewModel.{view_model}
use Rattle.sock_diag_replies.specs.UnixResponseSpec.{unix_response_spec}
use Rattle.sock_diag_replies.specs.laws.UnixResponseSpec.{unix_response_laws, unix_test_decides}
use Rattle.netlink_core.proofs.Responses.{reply_codec_laws}
use Rattle.sock_diag_examples.proofs.readme.comparing.are_same_reply.Goals as goal

-- `==` compares the models, which are equal if and only if the bytes are equivalent
pub returns-clause-value : goal.returns-clause-value
returns-clause-value c =
    let v = view_model c.in_ok-parse.field-0 in
    let w = view_model c.in_ok-parse-2.field-0 in
    let found = unix_test_decides v w in
    let laws = reply_codec_laws unix_response_spec unix_response_laws in
    let idle = laws.equal_iff_equivalent c.args.one.now c.args.other.now tt v w
    (λ i. omega (arith, c.type_inv.one i)) (λ i. omega (arith, c.type_inv.other i))
    c.in_ok-parse.ensures.value c.in_ok-parse-2.ensures.value in
    rw c.eq.ensures (λ same. idle.0 (found.0 same), λ i. found.1 (idle.1 i))

pub returns-clause-accepted : goal.returns-clause-accepted
returns-clause-accepted c = (
  (view_model c.in_ok-parse.field-0, c.in_ok-parse.ensures.value),
  (view_model c.in_ok-parse-2.field-0, c.in_ok-parse-2.ensures.value),
)

pub returns-in_err-parse-2-clause-error : goal.returns-in_err-parse-2-clause-error
returns-in_err-parse-2-clause-error c =
    let p = err_from_is_err_and c.from_residual-in_err-parse-2.result
    c.from_residual-in_err-parse-2.ensures.1 in
    rw (p.1, p.2) (inr (
      (view_model c.in_ok-parse.field-0, c.in_ok-parse.ensures.value),
      c.in_err-parse-2.ensures.error,
    ))
