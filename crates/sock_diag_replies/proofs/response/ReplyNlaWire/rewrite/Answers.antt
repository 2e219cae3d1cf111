use Rattle.std.proofs.Common.{ℕ, drop, ap, refl, arith, ◌∙◌}
use Rattle.std.proofs.lemmas.List.{take_rest}
use Rattle.std.proofs.lemmas.Result.{err_from_is_err_and}
use Rattle.netlink_core.specs.Bytes.{IsBytes}
use Rattle.attribute_lists.proofs.Finding.{error_after_header}
use Rattle.attribute_lists.proofs.SecondAttributeSet.{bytes_with_second_set}
use Rattle.attribute_lists.proofs.SecondAttributeSet.{writable_with_second_set}
use Rattle.attribute_lists.proofs.SecondAttributeSet.{parsed_with_second_set, error_with_second_set}
use Rattle.sock_diag_replies.proofs.response.ReplyNlaWire.rewrite.Goals as goal

pub returns-in-Ok-None-clause-err : goal.returns-in-Ok-None-clause-err
returns-in-Ok-None-clause-err g c =
    let R = g.H.ReplyHeader.reply in
    let F = g.H.Nla.FamilyNla.attribute_set in
    let same_attributes = g.met.H.ReplyOwned.same_attributes in
    let bytes = c.args.bytes.now in
    let part = take_rest bytes _ ∙ ap (λ (n : ℕ). drop n bytes) c.length.ensures in
    let in_range : IsBytes bytes = λ i. omega (arith, c.type_inv.bytes i) in
    let clean = rw part at c.in-Ok-None.ensures.clean in
    let parses = parsed_with_second_set R F g.met.H.ReplyOwned.both_accept bytes bytes (
      _,
      c.in-Ok.ensures.value,
    ) clean refl in_range in
    let long = rw (c.in-Ok-None.field-0-is, part) at c.in-Ok-None.ensures.len in
    (_, parses, λ fits. long ((writable_with_second_set R F same_attributes _ _).1 fits))

pub returns-in-Err-check_len-clause-err : goal.returns-in-Err-check_len-clause-err
returns-in-Err-check_len-clause-err g c =
    let R = g.H.ReplyHeader.reply in
    let bytes = c.args.bytes.now in
    let part = take_rest bytes _ ∙ ap (λ (n : ℕ). drop n bytes) c.length.ensures in
    let refused = error_after_header R bytes _ part _ _ c.in-Ok.ensures.value
    c.in-Err-check_len.ensures.error in (
      error_with_second_set R g.H.Nla.FamilyNla.attribute_set g.met.H.ReplyOwned.same_errors _ _
          refused,
      λ memory. g.met.H.ReplyHeader.keeps.error_is_not_memory _ tt (rw memory at refused),
    )

pub returns-in_err-write_reply-clause-err : goal.returns-in_err-write_reply-clause-err
returns-in_err-write_reply-clause-err g c =
    let R = g.H.ReplyHeader.reply in
    let F = g.H.Nla.FamilyNla.attribute_set in
    let same_attributes = g.met.H.ReplyOwned.same_attributes in
    let bytes = c.args.bytes.now in
    let part = take_rest bytes _ ∙ ap (λ (n : ℕ). drop n bytes) c.length.ensures in
    let in_range : IsBytes bytes = λ i. omega (arith, c.type_inv.bytes i) in
    let clean = rw part at c.in-Ok-Some.ensures.clean in
    let parses = parsed_with_second_set R F g.met.H.ReplyOwned.both_accept bytes bytes (
      _,
      c.in-Ok.ensures.value,
    ) clean refl in_range in
    let fit = rw (c.in-Ok-Some.field-0-is, part) at c.in-Ok-Some.ensures.len in
    let p = err_from_is_err_and c.from_residual.result c.from_residual.ensures.1 in
    rw (p.1, p.2) (_, parses, (writable_with_second_set R F same_attributes _ _).0 fit.0)

pub returns-clause-written : goal.returns-clause-written
returns-clause-written g c =
    let R = g.H.ReplyHeader.reply in
    let F = g.H.Nla.FamilyNla.attribute_set in
    let same_attributes = g.met.H.ReplyOwned.same_attributes in
    let bytes = c.args.bytes.now in
    let part = take_rest bytes _ ∙ ap (λ (n : ℕ). drop n bytes) c.length.ensures in
    let in_range : IsBytes bytes = λ i. omega (arith, c.type_inv.bytes i) in
    let clean = rw part at c.in-Ok-Some.ensures.clean in
    let parses = parsed_with_second_set R F g.met.H.ReplyOwned.both_accept bytes bytes (
      _,
      c.in-Ok.ensures.value,
    ) clean refl in_range in
    let fit = rw (c.in-Ok-Some.field-0-is, part) at c.in-Ok-Some.ensures.len in
    let form = rw part at c.in_ok-write_reply.ensures in (
      _,
      parses,
      (writable_with_second_set R F same_attributes _ _).0 fit.0,
      form ∙ bytes_with_second_set R F same_attributes _ _,
    )
