use Rattle.std.proofs.lemmas.Result.{IfOk-weaker, IfErr-weaker}
use Rattle.netlink_core.specs.FirstAttribute.{first_attribute_codec}
use Rattle.netlink_core.specs.Walk.{buffered_attribute}
use Rattle.netlink_core.proofs.Rewriting.{canonical_fails}
use Rattle.sock_diag_attributes.specs.InetAttributes.{inet_attribute_set}
use Rattle.sock_diag_attributes.specs.laws.InetAttribute.{inet_laws}
use Rattle.sock_diag_attributes.specs.InetModel.{inet_nla_view_model}
use Rattle.sock_diag_attributes.proofs.Reading.{rejected_has_no_canonical_form}
use Rattle.sock_diag_attributes.proofs.inet.codec.NlaWire.rewrite.Goals as goal

pub returns-in_err-parse-clause-err : goal.returns-in_err-parse-clause-err
returns-in_err-parse-clause-err g c =
    rejected_has_no_canonical_form inet_attribute_set inet_laws _
    (buffered_attribute c.in_ok-new_checked.field-0) _
    c.in_ok-new_checked.ensures c.in_err-parse.ensures _ c.from_residual-in_err-parse.ensures.1

pub returns-clause-written : goal.returns-clause-written
returns-clause-written g c =
    let nla = buffered_attribute c.in_ok-new_checked.field-0 in
    let view = inet_nla_view_model c.in_ok-parse.field-0 in
    IfOk-weaker c.write_new.result _ _
    (λ w (fits, written). (
      view,
      (nla, c.in_ok-new_checked.ensures, c.in_ok-parse.ensures),
      fits,
      written,
    ))
    c.write_new.ensures.written

pub returns-clause-err : goal.returns-clause-err
returns-clause-err g c =
    let codec = first_attribute_codec inet_attribute_set in
    let bytes = c.args.bytes.now in
    let nla = buffered_attribute c.in_ok-new_checked.field-0 in
    IfErr-weaker c.write_new.result _ _
    (canonical_fails inet_nla_view_model (codec.parses bytes tt)
    (codec.rejects bytes tt) codec.is_writable _
    c.in_ok-parse.field-0 (nla, c.in_ok-new_checked.ensures, c.in_ok-parse.ensures)
    (λ h. h, λ h. h))
    c.write_new.ensures.err
