use Rattle.std.proofs.Common.{arith}
use Rattle.std.proofs.lemmas.List.{take_rest}
use Rattle.netlink_core.proofs.header.NetlinkHeader.from_prefix.Goals as goal

pub returns : goal.returns
returns c =
    grind (arith, take_rest c.args.bytes.now)
