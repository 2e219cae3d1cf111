use Rattle.std.proofs.lemmas.Result.{IfOk-weaker, IfErr-weaker}
use Rattle.sock_diag_records.specs.ResponseKind.{inet_response, unix_response}
use Rattle.netlink_packet_sock_diag.specs.Message.{message_of}
use Rattle.netlink_packet_sock_diag.proofs.Rewriting.{kind_gives_up}
use Rattle.netlink_packet_sock_diag.proofs.message.SockDiagMessageWire.rewrite.Goals as goal

pub returns-in-Ok-true-clause-written : goal.returns-in-Ok-true-clause-written
returns-in-Ok-true-clause-written g c =
    let found = rw c.in-Ok-true.field-0-test at c.in-Ok-true.ensures.kind in
    IfOk-weaker c.canonical.result _ _
    (λ w (v, parses, fits, items). (message_of unix_response v, (found, parses), fits, items))
    c.canonical.ensures.written

pub returns-in-Ok-true-clause-err : goal.returns-in-Ok-true-clause-err
returns-in-Ok-true-clause-err g c =
    let found = rw c.in-Ok-true.field-0-test at c.in-Ok-true.ensures.kind in
    IfErr-weaker c.canonical.result _ _ (kind_gives_up unix_response _ _ found)
    c.canonical.ensures.err

pub returns-in-Ok-false-clause-written : goal.returns-in-Ok-false-clause-written
returns-in-Ok-false-clause-written g c =
    let found = rw c.in-Ok-false.field-0-test at c.in-Ok-false.ensures.kind in
    IfOk-weaker c.canonical-in-Ok-false.result _ _
    (λ w (v, parses, fits, items). (message_of inet_response v, (found, parses), fits, items))
    c.canonical-in-Ok-false.ensures.written

pub returns-in-Ok-false-clause-err : goal.returns-in-Ok-false-clause-err
returns-in-Ok-false-clause-err g c =
    let found = rw c.in-Ok-false.field-0-test at c.in-Ok-false.ensures.kind in
    IfErr-weaker c.canonical-in-Ok-false.result _ _ (kind_gives_up inet_response _ _ found)
    c.canonical-in-Ok-false.ensures.err
