use Rattle.std.proofs.Common.{◌≡◌, ◌+◌, ◌++◌, take, drop, length}
use Rattle.std.specs.Prelude.{map}
use Rattle.std.specs.List.{AllByRecursion, flat_map}
use Rattle.netlink_core.specs.Attribute.{AreWritable, attribute_bytes}
use Rattle.netlink_core.proofs.nla.emit_nlas.Given as goal

-- the written bytes and the bytes of the remaining attributes are the whole, and the buffer after
-- the written bytes is unchanged; if the remaining attributes are in range, all are
abbrev pub invariant-loop-nla : goal.invariant-loop-nla
invariant-loop-nla g l = record {
  fits : AreWritable (map g.T.Nla.attribute (drop l.nla-index l.nlas));
  len : l.at + length (flat_map attribute_bytes (map g.T.Nla.attribute (drop l.nla-index l.nlas)))
      ≡ length (flat_map attribute_bytes (map g.T.Nla.attribute l.nlas));
  done : take l.at l.buffer ++ flat_map attribute_bytes
      (map g.T.Nla.attribute (drop l.nla-index l.nlas))
      ≡ flat_map attribute_bytes (map g.T.Nla.attribute l.nlas);
  left : drop l.at l.buffer ≡ drop l.at l.fn.buffer;
  in_range : AllByRecursion g.T.Nla.in_range (drop l.nla-index l.nlas)
      → AllByRecursion g.T.Nla.in_range l.nlas;
}
