use Rattle.std.proofs.Common.{refl}
use Rattle.netlink_core.proofs.attribute.NlaBuffer.kind.Goals as goal

pub returns : goal.returns
returns c = refl
