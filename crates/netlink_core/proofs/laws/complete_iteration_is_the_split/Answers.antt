use Rattle.netlink_core.proofs.CompleteIteration.{drained_attributes_are_all}
use Rattle.netlink_core.proofs.CompleteIteration.{drained_attributes_before_error}
use Rattle.netlink_core.proofs.laws.complete_iteration_is_the_split.Goals as goal

pub returns : goal.returns
returns c = record { ended = drained_attributes_are_all; error = drained_attributes_before_error }
