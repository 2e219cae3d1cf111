use Rattle.std.proofs.Common.{Ok, Err, [], inl, inr, arith, refl, rules, sym}
use Rattle.std.proofs.lemmas.Result.{err_from_is_err_and}
use Rattle.std.proofs.lemmas.List.{append-nil, map_push}
use Rattle.netlink_core.specs.NetlinkMessage.{IsInnerMessageType}
use Rattle.netlink_core.specs.declared.message.NetlinkPayload.TheVariants.{Done, Error, Noop}
use Rattle.netlink_core.specs.declared.message.NetlinkPayload.TheVariants.{Overrun, InnerMessage}
use Rattle.netlink_core.proofs.Headers.{payload_after_header}
use Rattle.netlink_core.proofs.Items.{no_items}
use Rattle.netlink_packet_sock_diag.proofs.Dumping.{datagram_read_to_end, rest_is_framing_error}
use Rattle.netlink_packet_sock_diag.proofs.Dumping.{message_ends_dump, reading_next_message}
use Rattle.netlink_packet_sock_diag.proofs.Dumping.{message_does_not_end_dump, message_is_rejected}
use Rattle.netlink_packet_sock_diag.proofs.dump.generic.take_messages.Goals as goal

pub loop-item-init : goal.loop-item-init
loop-item-init g c =
    rw (c.into_iter-item-iterator.ensures.into_iter_gives, c.new-item-items.ensures) (record {
      passed = [];
      in_range = λ i. omega (arith, c.type_inv.datagram i);
      items = λ later are. are;
      leads = λ later. refl;
      flags = λ later. (λ e. e, λ e. e);
    })

pub returns-in_err-header : goal.returns-in_err-header
returns-in_err-header g c =
    let p = err_from_is_err_and c.from_residual.result c.from_residual.ensures.1 in
    let error = rw c.in_err-header.was at c.in-Some.ensures.steps in
    rw (p.1, p.2) (rest_is_framing_error c.loop-item.invariant error.0 error.1)

pub loop-item-preserved-in-1 : goal.loop-item-preserved-in-1
loop-item-preserved-in-1 g c =
    let start = rw c.in_ok-header.was at c.in-Some.ensures.steps in
    let head = start.1 in
    let is_item = g.met.I.DumpEntry.laws.payload_is_item c.in_ok-header.message.now
    c.in_ok-header.header in
    rw append-nil at (message_does_not_end_dump
    (reading_next_message c.loop-item.invariant (Ok Noop) start.0 head
    (is_item Noop head c.in-1.is) c.interrupted_by.ensures) refl)

pub returns-in-2 : goal.returns-in-2
returns-in-2 g c =
    let start = rw c.in_ok-header.was at c.in-Some.ensures.steps in
    let head = start.1 in
    let whole = payload_after_header c.in_ok-header.message.now c.in_ok-header.header start.2 in
    let is_item = g.met.I.DumpEntry.laws.payload_is_item c.in_ok-header.message.now
    c.in_ok-header.header in
    message_ends_dump (reading_next_message c.loop-item.invariant (Ok (Error _)) start.0 head
    (is_item (Error _) head (c.in-2.is, sym whole)) c.interrupted_by.ensures)
    g.met.I.DumpEntry.laws.has_item (rw c.error_number.ensures)

pub returns-in-3 : goal.returns-in-3
returns-in-3 g c =
    let start = rw c.in_ok-header.was at c.in-Some.ensures.steps in
    let head = start.1 in
    let whole = payload_after_header c.in_ok-header.message.now c.in_ok-header.header start.2 in
    let is_item = g.met.I.DumpEntry.laws.payload_is_item c.in_ok-header.message.now
    c.in_ok-header.header in
    message_ends_dump (reading_next_message c.loop-item.invariant (Ok (Done _)) start.0 head
    (is_item (Done _) head (c.in-3.is, sym whole)) c.interrupted_by.ensures)
    g.met.I.DumpEntry.laws.has_item (rw c.error_number-in-3.ensures)

pub returns-in-4 : goal.returns-in-4
returns-in-4 g c =
    let start = rw c.in_ok-header.was at c.in-Some.ensures.steps in
    let head = start.1 in
    let whole = payload_after_header c.in_ok-header.message.now c.in_ok-header.header start.2 in
    let is_item = g.met.I.DumpEntry.laws.payload_is_item c.in_ok-header.message.now
    c.in_ok-header.header in
    message_ends_dump (reading_next_message c.loop-item.invariant (Ok (Overrun _)) start.0 head
    (is_item (Overrun _) head (c.in-4.is, sym whole)) c.interrupted_by.ensures)
    g.met.I.DumpEntry.laws.has_item refl

pub returns-in_err-entry-in_default : goal.returns-in_err-entry-in_default
returns-in_err-entry-in_default g c =
    let p = err_from_is_err_and c.from_residual-in_err-entry-in_default.result
    c.from_residual-in_err-entry-in_default.ensures.1 in
    let start = rw c.in_ok-header.was at c.in-Some.ensures.steps in
    let head = start.1 in
    let whole = payload_after_header c.in_ok-header.message.now c.in_ok-header.header start.2 in
    let other : IsInnerMessageType c.in_ok-header.header.message_type = search rules in
    let laws = g.met.I.DumpEntry.laws in
    let message = c.in_ok-header.message.now in
    let h = c.in_ok-header.header in
    rw (p.1, p.2) (
      λ named. message_ends_dump (reading_next_message c.loop-item.invariant (Err _) start.0 head
          (laws.error_is_item message h _ head other
          (rw whole (c.in_err-entry-in_default.ensures.error named)))
          c.interrupted_by.ensures) laws.has_item refl,
      λ none. let m = c.in_err-entry-in_default.ensures.memory_needed none in (
        m.0,
        message_is_rejected laws.has_item
            (reading_next_message c.loop-item.invariant (Ok (InnerMessage m.0)) start.0 head
            (laws.payload_is_item message h (InnerMessage m.0) head (other, rw whole m.1))
            c.interrupted_by.ensures),
        inl m.2,
      ),
    )

pub loop-item-preserved : goal.loop-item-preserved
loop-item-preserved g c =
    let start = rw c.in_ok-header.was at c.in-Some.ensures.steps in
    let head = start.1 in
    let whole = payload_after_header c.in_ok-header.message.now c.in_ok-header.header start.2 in
    let other : IsInnerMessageType c.in_ok-header.header.message_type = search rules in
    let is_item = g.met.I.DumpEntry.laws.payload_is_item c.in_ok-header.message.now
    c.in_ok-header.header in
    rw (c.push_reserved.ensures.items, c.in_ok-reserve-in_default.ensures.items, map_push)
    (message_does_not_end_dump (reading_next_message c.loop-item.invariant
    (Ok (InnerMessage _)) start.0 head
    (is_item (InnerMessage _) head (other, rw whole c.in_ok-entry-in_default.ensures.value))
    c.interrupted_by.ensures)
    refl)

pub returns-in_err-reserve-in_default : goal.returns-in_err-reserve-in_default
returns-in_err-reserve-in_default g c =
    let p = err_from_is_err_and c.from_residual-in_err-reserve-in_default.result
    c.from_residual-in_err-reserve-in_default.ensures.1 in
    let reserved = c.in_err-reserve-in_default.ensures in
    let start = rw c.in_ok-header.was at c.in-Some.ensures.steps in
    let head = start.1 in
    let whole = payload_after_header c.in_ok-header.message.now c.in_ok-header.header start.2 in
    let other : IsInnerMessageType c.in_ok-header.header.message_type = search rules in
    let laws = g.met.I.DumpEntry.laws in
    let is_item = laws.payload_is_item c.in_ok-header.message.now c.in_ok-header.header in
    rw (p.1, p.2, reserved.items) (
      λ named. absurd (named refl),
      λ _. (
        _,
        message_is_rejected laws.has_item
            (reading_next_message c.loop-item.invariant (Ok (InnerMessage _)) start.0 head
            (is_item (InnerMessage (g.I.DumpEntry.model c.in_ok-entry-in_default.entry)) head
            (other, rw whole c.in_ok-entry-in_default.ensures.value))
            c.interrupted_by.ensures),
        inr (omega (arith, reserved.full, reserved.err, reserved.len)),
      ),
    )

pub returns : goal.returns
returns g c = datagram_read_to_end c.loop-item.invariant [] _
    (rw c.in-None.ensures.steps.0 (no_items g.I.DumpEntry.item_is)) refl (λ never. never)
