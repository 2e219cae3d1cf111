use Rattle.std.proofs.Common.{ℕ, List, length, drop, ap, inl, ◌∙◌, arith}
use Rattle.std.proofs.lemmas.List.{take_rest}
use Rattle.std.proofs.lemmas.Result.{err_from_is_err_and}
use Rattle.netlink_core.specs.Bytes.{IsBytes}
use Rattle.netlink_core.specs.AttributeSet.{decode_attribute}
use Rattle.attribute_lists.specs.AttributesIn.{decoded_in}
use Rattle.attribute_lists.proofs.Finding.{error_after_header, accepted_reply_is_parsed}
use Rattle.sock_diag_replies.proofs.view.ReplyView.parse.Goals as goal

pub returns-in_err-_header-clause-not_memory : goal.returns-in_err-_header-clause-not_memory
returns-in_err-_header-clause-not_memory g c =
    let p = err_from_is_err_and c.from_residual.result c.from_residual.ensures.1 in
    rw (p.1, p.2) (λ memory. g.met.H.ReplyHeader.keeps.error_is_not_memory _ tt
    (inl (rw memory at c.in_err-_header.ensures.error)))

pub returns-in_err-count-clause-error : goal.returns-in_err-count-clause-error
returns-in_err-count-clause-error g c =
    let residual = c.from_residual-in_err-count in
    let p = err_from_is_err_and residual.result residual.ensures.1 in
    let bytes = c.args.bytes.now in
    let part = take_rest bytes _ ∙ ap (λ (n : ℕ). drop n bytes) c.length.ensures in
    rw (p.1, p.2)
    (error_after_header g.H.ReplyHeader.reply _ _ part _ _ c.in_ok-_header.ensures.value
    c.in_err-count.ensures.error)

pub returns-in_err-count-clause-not_memory : goal.returns-in_err-count-clause-not_memory
returns-in_err-count-clause-not_memory g c =
    let residual = c.from_residual-in_err-count in
    let p = err_from_is_err_and residual.result residual.ensures.1 in
    let bytes = c.args.bytes.now in
    let part = take_rest bytes _ ∙ ap (λ (n : ℕ). drop n bytes) c.length.ensures in
    let refused = error_after_header g.H.ReplyHeader.reply _ _ part _ _
    c.in_ok-_header.ensures.value
    c.in_err-count.ensures.error in
    rw (p.1, p.2) (λ memory. g.met.H.ReplyHeader.keeps.error_is_not_memory _ tt (rw memory at
    refused))

pub invariant_of-result : goal.invariant_of-result
invariant_of-result g c =
    let R = g.H.ReplyHeader.reply in
    let bytes = c.args.bytes.now in
    let part = take_rest bytes _ ∙ ap (λ (n : ℕ). drop n bytes) c.length.ensures in
    record {
      long = g.met.H.ReplyHeader.complete_header c.args.bytes.now _ c.in_ok-_header.ensures.value;
      head = (_, c.in_ok-_header.ensures.value);
      clean = rw part at c.in_ok-count.ensures.clean;
      counted = c.in_ok-count.ensures.count
          ∙ ap (λ (b : List ℕ). length (decoded_in (decode_attribute R.attribute_set) b)) part;
    }

pub returns-clause-value : goal.returns-clause-value
returns-clause-value g c =
    let in_range : IsBytes c.args.bytes.now = λ i. omega (arith, c.type_inv.bytes i) in
    search (in_range, accepted_reply_is_parsed g.H.ReplyHeader.reply c.args.bytes.now)

pub returns-in_err-_header-clause-in_range : goal.returns-in_err-_header-clause-in_range
returns-in_err-_header-clause-in_range g c = λ i. omega (arith, c.type_inv.bytes i)

pub returns-in_err-count-clause-in_range : goal.returns-in_err-count-clause-in_range
returns-in_err-count-clause-in_range g c = λ i. omega (arith, c.type_inv.bytes i)

pub returns-clause-in_range : goal.returns-clause-in_range
returns-clause-in_range g c = λ i. omega (arith, c.type_inv.bytes i)
