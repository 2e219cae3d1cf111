use Rattle.std.proofs.Common.{◌+◌, sym, ap, take, length, arith}
use Rattle.std.proofs.lemmas.List.{drop_all, drop-drop, length-drop, take_rest}
use Rattle.netlink_core.specs.DatagramWalk.{unread_messages}
use Rattle.netlink_core.proofs.Datagrams.{starts_with_message}
use Rattle.netlink_core.proofs.Headers.{message_has_header}
use Rattle.netlink_core.proofs.datagram.FramedMessagesIterator.next.Goals as goal

pub returns-in-Ok-clause-steps : goal.returns-in-Ok-clause-steps
returns-in-Ok-clause-steps c =
    let walk = c.args.self.now in
    let h = c.in-Ok.header in
    let all = take_rest walk.bytes.now walk.at in
    let head = rw all at c.in-Ok.ensures in
    let message = message_has_header (unread_messages walk) _ h head (ap (take h.length) all) in (
      starts_with_message (unread_messages walk) _ _ h c.padded.result head (ap (take h.length) all)
          c.padded.ensures (sym (drop-drop _ walk.at walk.bytes.now)),
      message.0,
      message.1,
    )

pub returns-then-self-clause-steps : goal.returns-then-self-clause-steps
returns-then-self-clause-steps c =
    let walk = c.args.self.now in
    let none = drop_all walk.at walk.bytes.now c.if-self.true in (none, none)

pub returns-then-self-clause-goes : goal.returns-then-self-clause-goes
returns-then-self-clause-goes c = record { on = λ _. tt; keeps = tt; rests = λ finite. finite }

pub returns-in-Ok-clause-goes : goal.returns-in-Ok-clause-goes
returns-in-Ok-clause-goes c =
    let walk = c.args.self.now in
    let before = length-drop walk.at walk.bytes.now in
    let after = length-drop (walk.at + c.padded.result) walk.bytes.now in
    record {
      on = λ _. (tt, tt, omega (arith, c.in-Ok.ensures.2, c.padded.ensures));
      keeps = tt;
      rests = λ _. tt;
    }

pub returns-in-Err-clause-steps : goal.returns-in-Err-clause-steps
returns-in-Err-clause-steps c =
    let walk = c.args.self.now in (
      λ none. omega (arith, length-drop walk.at walk.bytes.now, ap length none),
      rw (take_rest walk.bytes.now walk.at) at c.in-Err.ensures,
      drop_all (length walk.bytes.now) walk.bytes.now (omega arith),
    )

pub returns-in-Err-clause-goes : goal.returns-in-Err-clause-goes
returns-in-Err-clause-goes c =
    let walk = c.args.self.now in
    let before = length-drop walk.at walk.bytes.now in
    let after = length-drop (length walk.bytes.now) walk.bytes.now in
    record { on = λ _. (tt, tt, omega arith); keeps = tt; rests = λ _. tt }
