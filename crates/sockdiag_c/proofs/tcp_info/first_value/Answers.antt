use Rattle.std.proofs.Common.{arith}
use Rattle.sockdiag_c.proofs.Values.{framing_error_is_found, found_after_skipped, found_here}
use Rattle.sockdiag_c.proofs.Values.{found_nowhere}
use Rattle.sockdiag_c.proofs.tcp_info.first_value.Goals as goal

pub returns-in-Ok : goal.returns-in-Ok
returns-in-Ok c =
    grind (arith, found_here, c.kind.ensures, c.value.ensures)

pub loop-item-preserved : goal.loop-item-preserved
loop-item-preserved c =
    grind (arith, found_after_skipped, c.kind.ensures)

pub returns-in-Err : goal.returns-in-Err
returns-in-Err c =
    grind (arith, framing_error_is_found)

pub returns : goal.returns
returns c = found_nowhere _ _ _ c.loop-item.invariant c.in-None.ensures.steps.0
