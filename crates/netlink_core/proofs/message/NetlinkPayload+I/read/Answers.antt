use Rattle.std.proofs.Common.{refl, arith}
use Rattle.std.proofs.lemmas.Result.{err_from_is_err_and}
use Rattle.netlink_core.specs.NetlinkMessage.{IsInnerMessageType}
use Rattle.netlink_core.specs.declared.message.NetlinkPayload.TheVariants.{Done, Error}
use Rattle.netlink_core.specs.declared.message.NetlinkPayload.TheVariants.{Overrun, InnerMessage}
use Rattle.netlink_core.proofs.message.NetlinkPayload+I.read.Goals as goal

pub returns-in_err-from_slice-in-2-clause-memory_needed :
    goal.returns-in_err-from_slice-in-2-clause-memory_needed
returns-in_err-from_slice-in-2-clause-memory_needed g c =
    let p = err_from_is_err_and c.from_residual.result c.from_residual.ensures.1 in
    rw (p.1, p.2) (λ memory. (Error c.args.bytes.now, (c.in-2.is, refl), λ is. cc is))

pub returns-in_err-from_slice-in-3-clause-memory_needed :
    goal.returns-in_err-from_slice-in-3-clause-memory_needed
returns-in_err-from_slice-in-3-clause-memory_needed g c =
    let p = err_from_is_err_and c.from_residual-in_err-from_slice-in-3.result
    c.from_residual-in_err-from_slice-in-3.ensures.1 in
    rw (p.1, p.2) (λ memory. (Done c.args.bytes.now, (c.in-3.is, refl), λ is. cc is))

pub returns-in_err-from_slice-in-4-clause-memory_needed :
    goal.returns-in_err-from_slice-in-4-clause-memory_needed
returns-in_err-from_slice-in-4-clause-memory_needed g c =
    let p = err_from_is_err_and c.from_residual-in_err-from_slice-in-4.result
    c.from_residual-in_err-from_slice-in-4.ensures.1 in
    rw (p.1, p.2) (λ memory. (Overrun c.args.bytes.now, (c.in-4.is, refl), λ is. cc is))

pub returns-in_err-deserialize-in_default-clause-memory_needed :
    goal.returns-in_err-deserialize-in_default-clause-memory_needed
returns-in_err-deserialize-in_default-clause-memory_needed g c =
    let p = err_from_is_err_and c.from_residual-in_err-deserialize-in_default.result
    c.from_residual-in_err-deserialize-in_default.ensures.1 in
    let t : IsInnerMessageType c.args.header.now.message_type = grind arith in
    rw (p.1, p.2) (λ memory. let m = c.in_err-deserialize-in_default.ensures.memory_needed memory in
    (InnerMessage m.0, (t, m.1), λ is. cc is))
