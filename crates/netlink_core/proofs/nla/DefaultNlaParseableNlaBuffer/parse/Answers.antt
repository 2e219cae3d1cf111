use Rattle.std.proofs.Common.{arith, refl}
use Rattle.std.proofs.lemmas.Result.{err_from_is_err_and}
use Rattle.netlink_core.specs.laws.FirstAttribute.{raw_copy_is_parsed}
use Rattle.netlink_core.specs.Walk.{buffered_attribute}
use Rattle.netlink_core.proofs.nla.DefaultNlaParseableNlaBuffer.parse.Goals as goal

pub returns-in_err-from_buffer-clause-memory_needed :
    goal.returns-in_err-from_buffer-clause-memory_needed
returns-in_err-from_buffer-clause-memory_needed c =
    let p = err_from_is_err_and c.from_residual.result c.from_residual.ensures.1 in
    let read = raw_copy_is_parsed (buffered_attribute c.args.buf) _
    (c.args.buf.word_fits, c.args.buf.value_fits) refl in
    rw (p.1, p.2) (λ memory. (buffered_attribute c.args.buf, read, λ spare. spare))

pub returns-clause-value : goal.returns-clause-value
returns-clause-value c =
    grind (
      arith,
      raw_copy_is_parsed (buffered_attribute c.args.buf),
      c.in_ok-from_buffer.ensures.equal,
    )
