use Rattle.netlink_core.proofs.laws.parsed_iff_contained.Goals as goal

pub returns : goal.returns
returns g c = g.met.T.Record.laws.parsed_iff_contained
