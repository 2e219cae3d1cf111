use Rattle.std.proofs.Common.{arith}
use Rattle.netlink_captures.proofs.laws.stops_have_their_reasons.Goals as goal

pub returns-clause-header : goal.returns-clause-header
returns-clause-header c = λ file header packet left is. (
  λ stop. is.no_capture stop.1,
  λ count stop. omega (arith, is.count, is.within, stop.1, stop.2),
)

pub returns-clause-truncated : goal.returns-clause-truncated
returns-clause-truncated c = λ file part byte later stop. absurd (cc stop.2)
