use Rattle.std.proofs.Common.{arith}
use Rattle.netlink_core.proofs.FieldReads.{first_numbers_are_all, fit-append, fit-bytes}
use Rattle.sock_diag_records.specs.SocketId.{socket_id}
use Rattle.sock_diag_records.specs.laws.SocketId.{socket_id_serializes_to}
use Rattle.sock_diag_records.proofs.inet.socket_id.SocketIdRecord.write_fields.Goals as goal

pub returns-clause-written : goal.returns-clause-written
returns-clause-written c =
    grind (arith, socket_id_serializes_to, first_numbers_are_all 8)

pub returns-clause-in_range : goal.returns-clause-in_range
unfolding socket_id
returns-clause-in_range c =
    grind (
      arith,
      fit-bytes 40 8 c.args.self.now.cookie c.write_bytes.ensures.by_index,
      fit-append,
      c.write_address.ensures.in_range,
      c.write_address-2.ensures.in_range,
    )
