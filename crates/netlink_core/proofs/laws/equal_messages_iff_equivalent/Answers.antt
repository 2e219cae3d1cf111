use Rattle.netlink_core.proofs.Equivalence.{messages_equal_iff_equivalent}
use Rattle.netlink_core.proofs.laws.equal_messages_iff_equivalent.Goals as goal

pub returns : goal.returns
returns g c = messages_equal_iff_equivalent g.I.HasCodec.codec
    g.met.I.HasCodec.laws.equal_iff_equivalent
