use Rattle.std.proofs.Common.{arith}
use Rattle.netlink_core.proofs.Equivalence.{message_round_trips, inner_message_law}
use Rattle.netlink_core.proofs.laws.finalized_message_round_trips.Goals as goal

pub returns : goal.returns
returns g c =
    grind (
      arith,
      message_round_trips g.I.HasCodec.codec,
      inner_message_law g.I.HasCodec.codec.is_in_range g.I.HasCodec.codec.is_writable,
    )
