use Rattle.std.proofs.Common.{arith}
use Rattle.sock_diag_values.proofs.inet.mem_info.MemInfoRecord.from_fields.Goals as goal

pub returns : goal.returns
returns c =
    grind (arith, c.u32s_at.ensures, c.u32_if_present.ensures, c.u32_if_present-2.ensures)
