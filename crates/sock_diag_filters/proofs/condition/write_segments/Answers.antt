use Rattle.std.proofs.Common.{arith}
use Rattle.netlink_core.proofs.FieldReads.{first_numbers_are_all}
use Rattle.sock_diag_filters.proofs.condition.write_segments.Goals as goal

pub returns : goal.returns
returns c =
    grind (
      arith,
      first_numbers_are_all 8 c.args.ip.segments,
      c.segments.ensures,
      c.write_u16_into.ensures,
    )
