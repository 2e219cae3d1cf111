use Rattle.std.proofs.Common.{◌≡◌, ◌+◌, drop, length}
use Rattle.std.specs.Prelude.{map}
use Rattle.std.specs.List.{flat_map}
use Rattle.netlink_core.specs.Attribute.{AreWritable, attribute_bytes}
use Rattle.netlink_core.proofs.nla.nlas_len.Given as goal

-- the length so far and the length of the remaining attributes are the whole length
abbrev pub invariant-loop-nla : goal.invariant-loop-nla
invariant-loop-nla g l = record {
  fits : AreWritable (map g.T.Nla.attribute (drop l.nla-index l.nlas));
  same : l.len + length (flat_map attribute_bytes (map g.T.Nla.attribute (drop l.nla-index l.nlas)))
      ≡ length (flat_map attribute_bytes (map g.T.Nla.attribute l.nlas));
}
