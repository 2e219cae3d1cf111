use Rattle.std.proofs.Common.{length}
use Rattle.sock_diag_filters.proofs.text.postfix.+write_last.Given as goal

abbrev pub decreases-write_last : goal.decreases-write_last
decreases-write_last l = length l.parts.now
