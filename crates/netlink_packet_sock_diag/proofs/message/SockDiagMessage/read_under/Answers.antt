use Rattle.std.proofs.lemmas.Result.{err_from_is_err_and}
use Rattle.netlink_packet_sock_diag.specs.laws.Message.{message_laws}
use Rattle.netlink_packet_sock_diag.specs.MessageViewModel.{message_view_model}
use Rattle.netlink_packet_sock_diag.proofs.message.SockDiagMessage.read_under.Goals as goal

pub returns-in_err-parse-clause-memory_needed : goal.returns-in_err-parse-clause-memory_needed
returns-in_err-parse-clause-memory_needed c =
    let p = err_from_is_err_and c.from_residual.result c.from_residual.ensures.1 in
    rw (p.1, p.2) (λ memory. absurd (message_laws.error_is_not_memory c.args.payload.now
    c.args.message_type
    (rw memory at c.in_err-parse.ensures.error)))

pub returns-in_err-to_owned-clause-memory_needed : goal.returns-in_err-to_owned-clause-memory_needed
returns-in_err-to_owned-clause-memory_needed c =
    let p = err_from_is_err_and c.from_residual-in_err-to_owned.result
    c.from_residual-in_err-to_owned.ensures.1 in
    rw (p.1, p.2) (λ memory. (
      message_view_model c.in_ok-parse.field-0,
      c.in_ok-parse.ensures.value,
      λ spare. spare,
    ))
