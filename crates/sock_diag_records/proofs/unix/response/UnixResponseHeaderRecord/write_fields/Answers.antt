use Rattle.std.proofs.Common.{arith}
use Rattle.netlink_core.proofs.FieldReads.{first_numbers_are_all}
use Rattle.sock_diag_records.proofs.unix.response.UnixResponseHeaderRecord.write_fields.Goals as
    goal

pub returns-clause-written : goal.returns-clause-written
returns-clause-written c =
    grind (arith, first_numbers_are_all 8 c.args.self.now.cookie)
