use Rattle.std.proofs.Common.{[], refl, ap, sym}
use Rattle.std.specs.Prelude.{Ok}
use Rattle.std.proofs.lemmas.Result.{err_from_is_err_and, IfOk-weaker, IfErr-weaker}
use Rattle.netlink_core.specs.DefaultNla.{raw_attribute}
use Rattle.netlink_core.specs.FirstAttribute.{first_attribute_codec}
use Rattle.netlink_core.specs.Walk.{buffered_attribute}
use Rattle.netlink_core.proofs.Rewriting.{canonical_fails}
use Rattle.netlink_core.proofs.nla.DefaultNlaWire.rewrite.Goals as goal

pub returns-in_err-from_buffer-clause-err : goal.returns-in_err-from_buffer-clause-err
returns-in_err-from_buffer-clause-err g c =
    let p = err_from_is_err_and c.from_residual-in_err-from_buffer.result
    c.from_residual-in_err-from_buffer.ensures.1 in
    let head = c.in_ok-new_checked.ensures in
    rw (p.1, p.2) (buffered_attribute c.in_ok-new_checked.field-0, (_, head, refl), head.2.1)

pub returns-clause-written : goal.returns-clause-written
returns-clause-written g c =
    let parses = ap Ok (sym c.in_ok-from_buffer.ensures.equal) in
    IfOk-weaker c.write_new.result _ _
    (λ w (fits, written). (
      raw_attribute c.in_ok-from_buffer.field-0,
      (buffered_attribute c.in_ok-new_checked.field-0, c.in_ok-new_checked.ensures, parses),
      fits,
      written,
    ))
    c.write_new.ensures.written

pub returns-clause-err : goal.returns-clause-err
returns-clause-err g c =
    let codec = first_attribute_codec [] in
    let bytes = c.args.bytes.now in
    let nla = buffered_attribute c.in_ok-new_checked.field-0 in
    let decoded = ap Ok (sym c.in_ok-from_buffer.ensures.equal) in
    IfErr-weaker c.write_new.result _ _
    (canonical_fails raw_attribute (codec.parses bytes tt) (codec.rejects bytes tt)
    codec.is_writable _
    c.in_ok-from_buffer.field-0 (nla, c.in_ok-new_checked.ensures, decoded) (λ h. h, λ h. h))
    c.write_new.ensures.err
