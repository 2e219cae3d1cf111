use Rattle.std.proofs.Common.{arith}
use Rattle.netlink_core.proofs.Texts.{terminating_nul_is_removed, other_last_byte_stays}
use Rattle.netlink_core.proofs.parse.text_bytes.Goals as goal

pub returns-then-last-eq0 : goal.returns-then-last-eq0
returns-then-last-eq0 c =
    grind (arith, terminating_nul_is_removed c.in-Some.text.now)

pub returns-else-last-eq0 : goal.returns-else-last-eq0
returns-else-last-eq0 c =
    grind (arith, other_last_byte_stays c.in-Some.text.now c.in-Some.last.now)
