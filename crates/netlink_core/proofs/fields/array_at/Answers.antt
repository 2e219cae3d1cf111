use Rattle.std.proofs.Common.{arith}
use Rattle.netlink_core.proofs.FieldReads.{bytes_read}
use Rattle.netlink_core.proofs.fields.array_at.Goals as goal

pub returns : goal.returns
returns g c =
    grind (
      arith,
      bytes_read c.args.offset g.row.N c.args.bytes.now c.requires,
      c.copy_from_slice.ensures.after,
    )
