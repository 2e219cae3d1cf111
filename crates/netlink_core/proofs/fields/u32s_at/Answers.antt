use Rattle.std.proofs.Common.{arith}
use Rattle.std.proofs.lemmas.List.{length-replicate}
use Rattle.netlink_core.proofs.FieldReads.{fields_read}
use Rattle.netlink_core.proofs.Numbers.{little_endian}
use Rattle.netlink_core.proofs.fields.u32s_at.Goals as goal

pub returns : goal.returns
returns g c =
    grind (arith, fields_read little_endian, length-replicate, c.read_u32_into.ensures)
