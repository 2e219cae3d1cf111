use Rattle.std.proofs.Common.{arith}
use Rattle.sock_diag_records.specs.SocketId.{socket_id}
use Rattle.sock_diag_records.specs.InetResponse.{inet_response_header}
use Rattle.sock_diag_records.specs.laws.InetResponse.{inet_response_header_length}
use Rattle.sock_diag_records.specs.laws.SocketId.{socket_id_length}
use Rattle.sock_diag_records.proofs.inet.response.InetResponseHeaderRecord.write_fields.Goals as
    goal

pub write_u32s-requires : goal.write_u32s-requires
write_u32s-requires c =
    grind (arith, inet_response_header_length c.args.self.now)

pub returns-clause-in_range : goal.returns-clause-in_range
unfolding inet_response_header socket_id
returns-clause-in_range c =
    grind arith

pub write_fields-requires : goal.write_fields-requires
write_fields-requires c =
    let value = c.args.self.now in
    omega (arith, inet_response_header_length value, socket_id_length value.socket_id)

pub returns-clause-written : goal.returns-clause-written
unfolding inet_response_header socket_id
returns-clause-written c =
    grind arith
