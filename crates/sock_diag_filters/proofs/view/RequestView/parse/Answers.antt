use Rattle.std.proofs.Common.{rules, refl, sym}
use Rattle.std.proofs.lemmas.Result.{err_from_is_err_and}
use Rattle.sock_diag_filters.specs.InetRequests.{IsRequestType, no_attributes, no_request}
use Rattle.sock_diag_filters.specs.InetRequests.{other_type}
use Rattle.sock_diag_filters.proofs.Requesting.{request_record_is_long_enough}
use Rattle.sock_diag_filters.proofs.view.RequestView.parse.Goals as goal

pub returns-then-not-is_request-clause-error : goal.returns-then-not-is_request-clause-error
returns-then-not-is_request-clause-error c =
    let other : IsRequestType c.in_ok-header.header.message_type → ⊥ = search rules in
    other_type c.in_ok-header.header c.in_ok-header.ensures other refl

pub returns-in_err-request-clause-error : goal.returns-in_err-request-clause-error
returns-in_err-request-clause-error c =
    let kind : IsRequestType c.in_ok-header.header.message_type = search rules in
    let p = err_from_is_err_and c.from_residual-in_err-request.result
    c.from_residual-in_err-request.ensures.1 in
    rw (p.1, p.2) (no_request c.in_ok-header.header c.in_ok-header.ensures kind
    (sym c.in_err-request.ensures.value))

pub split_at-requires : goal.split_at-requires
split_at-requires c = request_record_is_long_enough _ c.in_ok-request.request
    (sym c.in_ok-request.ensures.value)

pub returns-in_err-found-clause-error : goal.returns-in_err-found-clause-error
returns-in_err-found-clause-error c =
    let kind : IsRequestType c.in_ok-header.header.message_type = search rules in
    let p = err_from_is_err_and c.from_residual-in_err-found.result
    c.from_residual-in_err-found.ensures.1 in
    rw (p.1, p.2) (no_attributes c.in_ok-header.header c.in_ok-request.request
    c.in_ok-header.ensures kind (sym c.in_ok-request.ensures.value)
    (rw c.split_at.ensures.back at c.in_err-found.ensures.error))
