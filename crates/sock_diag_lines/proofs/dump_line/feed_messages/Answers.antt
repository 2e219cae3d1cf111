use Rattle.std.proofs.Common.{arith, refl, None, Ok, Err}
use Rattle.std.proofs.lemmas.List.{append-nil}
use Rattle.netlink_core.specs.NetlinkMessage.{leading_error_number}
use Rattle.netlink_core.specs.declared.message.NetlinkPayload.TheVariants.{InnerMessage, Noop}
use Rattle.netlink_packet_sock_diag.specs.declared.dump.DumpState.TheVariants.{Done, Error, Overrun}
use Rattle.netlink_packet_sock_diag.specs.DumpWalk.{unread_views}
use Rattle.sock_diag_lines.proofs.DumpLaws.{ends_dump, reads_all_messages, reads_no_messages}
use Rattle.sock_diag_lines.proofs.DumpLaws.{reads_one_message}
use Rattle.sock_diag_lines.proofs.dump_line.feed_messages.Goals as goal

pub loop-item-init : goal.loop-item-init
loop-item-init c =
    rw (c.into_iter-item-iterator.ensures.into_iter_gives, c.new-item-items.ensures)
    (reads_no_messages c.args.datagram.now c.args.dump.now c.requires)

pub loop-item-preserved-in-Continue-1 : goal.loop-item-preserved-in-Continue-1
loop-item-preserved-in-Continue-1 c =
    let step = rw (c.in-Ok.is, c.in-InnerMessage.is) at c.in-Some.ensures.steps in
    let adds = c.in_ok-push_message-in-InnerMessage.ensures in
    reads_one_message c.loop-item.invariant (InnerMessage c.in-InnerMessage.message)
    (unread_views c.next.new.self) c.push_message.new.dump step refl adds.0 adds.1

pub loop-item-preserved : goal.loop-item-preserved
loop-item-preserved c =
    let step = rw (c.in-Ok.is, c.in-Noop.is) at c.in-Some.ensures.steps in
    reads_one_message c.loop-item.invariant Noop (unread_views c.next.new.self) c.loop-item.dump
    step refl refl (λ messages has. rw append-nil has)

pub returns-in-Done : goal.returns-in-Done
returns-in-Done c =
    ends_dump c.loop-item.invariant c.in-Some.item (unread_views c.next.new.self)
    (Ok (Done, leading_error_number c.in-Done.field-0.now))
    (λ i. omega (arith, c.type_inv.datagram i)) c.requires c.in-Some.ensures.steps
    (rw (c.in-Ok.is, c.in-Done.is) refl)

pub returns-in-Error : goal.returns-in-Error
returns-in-Error c =
    ends_dump c.loop-item.invariant c.in-Some.item (unread_views c.next.new.self)
    (Ok (Error, leading_error_number c.in-Error.field-0.now))
    (λ i. omega (arith, c.type_inv.datagram i)) c.requires c.in-Some.ensures.steps
    (rw (c.in-Ok.is, c.in-Error.is) refl)

pub returns-in-Overrun : goal.returns-in-Overrun
returns-in-Overrun c =
    ends_dump c.loop-item.invariant c.in-Some.item (unread_views c.next.new.self)
    (Ok (Overrun, None)) (λ i. omega (arith, c.type_inv.datagram i)) c.requires
    c.in-Some.ensures.steps (rw (c.in-Ok.is, c.in-Overrun.is) refl)

pub returns-in-Err : goal.returns-in-Err
returns-in-Err c =
    ends_dump c.loop-item.invariant c.in-Some.item (unread_views c.next.new.self)
    (Err c.in-Err.error) (λ i. omega (arith, c.type_inv.datagram i)) c.requires
    c.in-Some.ensures.steps (rw c.in-Err.is refl)

pub returns : goal.returns
returns c = reads_all_messages c.loop-item.invariant c.in-None.ensures.steps.0 c.requires
