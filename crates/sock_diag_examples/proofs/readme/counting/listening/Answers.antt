use Rattle.std.proofs.Common.{Bool, refl, sym, ap, ◌∙◌, arith, Ok, Err}
use Rattle.std.specs.Bool.{then_some}
use Rattle.std.proofs.lemmas.Bool.{eq-eqb, ne_eqb}
use Rattle.std.proofs.lemmas.Result.{err_from_is_err_and}
use Rattle.netlink_core.specs.Bytes.{IsBytes}
use Rattle.sock_diag_records.specs.declared.unix.response.UnixResponseHeader.{UnixResponseHeader}
use Rattle.netlink_core.specs.declared.message.NetlinkPayload.TheVariants.{Done, Error}
use Rattle.netlink_core.specs.declared.message.NetlinkPayload.TheVariants.{Noop}
use Rattle.netlink_core.specs.declared.message.NetlinkPayload.TheVariants.{Overrun}
use Rattle.netlink_core.specs.declared.message.NetlinkPayload.TheVariants.{InnerMessage}
use Rattle.netlink_packet_sock_diag.specs.declared.message.SockDiagView.TheVariants.{InetResponse}
use Rattle.netlink_packet_sock_diag.specs.declared.message.SockDiagView.TheVariants.{UnixResponse}
use Rattle.netlink_core.specs.Errors.{map_ok}
use Rattle.netlink_packet_sock_diag.specs.PayloadViewModel.{payload_view_model}
use Rattle.sock_diag_examples.proofs.CountingListeners.{counting_begins, counts_all, counts_none}
use Rattle.sock_diag_examples.proofs.CountingListeners.{counts_one, counts_to, step_of}
use Rattle.sock_diag_examples.proofs.readme.counting.listening.Goals as goal

pub loop-item-init : goal.loop-item-init
loop-item-init c = rw (c.into_iter-item-iterator.ensures.into_iter_gives, c.new-item-items.ensures)
    (counting_begins c.args.datagram.now)

pub returns-in_err-reply : goal.returns-in_err-reply
returns-in_err-reply c =
    let p = err_from_is_err_and c.from_residual.result c.from_residual.ensures.1 in
    let e = c.in_err-reply.field-0.0 in
    let in_range : IsBytes c.args.datagram.now = λ i. omega (arith, c.type_inv.datagram i) in
    let step = step_of c.loop-item.item-iterator c.next.new.self (Err e)
    (rw c.in_err-reply.was at c.in-Some.ensures.steps) in
    rw (p.1, p.2) (counts_to _ _ _ _ (Err e) (Err e) in_range c.loop-item.invariant step
    (λ more. refl))

pub loop-item-preserved-then-header-eq-TCP_LISTEN :
    goal.loop-item-preserved-then-header-eq-TCP_LISTEN
loop-item-preserved-then-header-eq-TCP_LISTEN c =
    let it = c.in-InnerMessage-UnixResponse in
    let item = Ok (InnerMessage (UnixResponse it.reply)) in
    let step = step_of c.loop-item.item-iterator c.next.new.self item
    (rw (c.in_ok-reply.was, it.is, it.field-0-is) at c.in-Some.ensures.steps) in
    let state = ap (λ (h : UnixResponseHeader). h.state) (sym c.header.ensures) in
    counts_one _ _ _ _ (map_ok payload_view_model item) c.loop-item.invariant step refl
    (eq-eqb _ _ (state ∙ c.if-header-eq-TCP_LISTEN.true))

pub loop-item-preserved-else-header-eq-TCP_LISTEN :
    goal.loop-item-preserved-else-header-eq-TCP_LISTEN
loop-item-preserved-else-header-eq-TCP_LISTEN c =
    let it = c.in-InnerMessage-UnixResponse in
    let item = Ok (InnerMessage (UnixResponse it.reply)) in
    let step = step_of c.loop-item.item-iterator c.next.new.self item
    (rw (c.in_ok-reply.was, it.is, it.field-0-is) at c.in-Some.ensures.steps) in
    let state = ap (λ (h : UnixResponseHeader). h.state) c.header.ensures in
    counts_none _ _ _ _ (map_ok payload_view_model item) c.loop-item.invariant step refl
    (ne_eqb _ 10 (λ is. c.if-header-eq-TCP_LISTEN.false (state ∙ is)))

pub loop-item-preserved-in-InnerMessage-InetResponse :
    goal.loop-item-preserved-in-InnerMessage-InetResponse
loop-item-preserved-in-InnerMessage-InetResponse c =
    let it = c.in-InnerMessage-InetResponse in
    let item = Ok (InnerMessage (InetResponse it.field-0-0)) in
    let step = step_of c.loop-item.item-iterator c.next.new.self item
    (rw (c.in_ok-reply.was, it.is, it.field-0-is) at c.in-Some.ensures.steps) in
    counts_none _ _ _ _ (map_ok payload_view_model item) c.loop-item.invariant step refl refl

pub loop-item-preserved : goal.loop-item-preserved
loop-item-preserved c =
    let step = step_of c.loop-item.item-iterator c.next.new.self (Ok Noop)
    (rw (c.in_ok-reply.was, c.in-Noop.is) at c.in-Some.ensures.steps) in
    counts_none _ _ _ _ (map_ok payload_view_model (Ok Noop)) c.loop-item.invariant step refl refl

pub returns-in-Done : goal.returns-in-Done
returns-in-Done c =
    let in_range : IsBytes c.args.datagram.now = λ i. omega (arith, c.type_inv.datagram i) in
    let item = Ok (Done c.in-Done.status) in
    let step = step_of c.loop-item.item-iterator c.next.new.self item
    (rw (c.in_ok-reply.was, c.in-Done.is) at c.in-Some.ensures.steps) in
    let answer = c.then_some.ensures ∙ ap (λ (b : Bool). then_some b c.loop-item.count)
    c.starts_with.ensures.value in
    counts_to _ _ _ _ (map_ok payload_view_model item) _ in_range c.loop-item.invariant step
    (λ more.
    ap Ok answer)

pub returns-in-Error : goal.returns-in-Error
returns-in-Error c =
    let in_range : IsBytes c.args.datagram.now = λ i. omega (arith, c.type_inv.datagram i) in
    let item = Ok (Error c.in-Error.field-0) in
    let step = step_of c.loop-item.item-iterator c.next.new.self item
    (rw (c.in_ok-reply.was, c.in-Error.is) at c.in-Some.ensures.steps) in
    counts_to _ _ _ _ (map_ok payload_view_model item) _ in_range c.loop-item.invariant step
    (λ more. refl)

pub returns-in-Overrun : goal.returns-in-Overrun
returns-in-Overrun c =
    let in_range : IsBytes c.args.datagram.now = λ i. omega (arith, c.type_inv.datagram i) in
    let item = Ok (Overrun c.in-Overrun.field-0) in
    let step = step_of c.loop-item.item-iterator c.next.new.self item
    (rw (c.in_ok-reply.was, c.in-Overrun.is) at c.in-Some.ensures.steps) in
    counts_to _ _ _ _ (map_ok payload_view_model item) _ in_range c.loop-item.invariant step
    (λ more. refl)

pub returns : goal.returns
returns c = counts_all _ _ _ c.loop-item.invariant c.in-None.ensures.steps.0
