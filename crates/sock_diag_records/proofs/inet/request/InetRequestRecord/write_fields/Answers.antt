use Rattle.std.proofs.Common.{arith}
use Rattle.std.proofs.lemmas.Grind.{common_steps}
use Rattle.sock_diag_records.specs.InetRequest.{inet_request}
use Rattle.sock_diag_records.specs.SocketId.{socket_id}
use Rattle.sock_diag_records.specs.laws.InetRequest.{inet_request_length}
use Rattle.sock_diag_records.specs.laws.SocketId.{socket_id_length, nested_socket_id_fits}
use Rattle.sock_diag_records.proofs.inet.request.InetRequestRecord.write_fields.Goals as goal

pub write_fields-requires : goal.write_fields-requires
write_fields-requires c =
    let value = c.args.self.now in
    omega (arith, inet_request_length value, socket_id_length value.socket_id)

pub returns-clause-written : goal.returns-clause-written
unfolding inet_request socket_id
returns-clause-written c =
    grind (arith, common_steps)

pub returns-clause-in_range : goal.returns-clause-in_range
unfolding inet_request socket_id
returns-clause-in_range c =
    grind (arith, nested_socket_id_fits)
