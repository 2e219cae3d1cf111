use Rattle.std.proofs.Common.{refl}
use Rattle.netlink_core.proofs.message.payload_of.Goals as goal

pub returns : goal.returns
returns c = refl
