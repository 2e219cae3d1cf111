use Rattle.std.proofs.Common.{◌≡◌, ◌≤◌, ◌+◌, drop, length}
use Rattle.std.specs.Prelude.{◌↔◌, map}
use Rattle.std.specs.List.{flat_map}
use Rattle.netlink_core.specs.Attribute.{AreWritableWithin, attribute_bytes}
use Rattle.netlink_core.proofs.nla.nlas_len_within.Given as goal

-- all attributes are writable within `limit` if and only if the remaining ones are within `room`,
-- and the lengths before them add up to `limit - room`
abbrev pub invariant-loop-nla : goal.invariant-loop-nla
invariant-loop-nla g l = record {
  room : l.room ≤ l.limit;
  same : AreWritableWithin (map g.T.Nla.attribute (drop l.nla-index l.nlas)) l.room
      ↔ AreWritableWithin (map g.T.Nla.attribute l.nlas) l.limit;
  len : l.limit + length (flat_map attribute_bytes
      (map g.T.Nla.attribute (drop l.nla-index l.nlas)))
      ≡ l.room + length (flat_map attribute_bytes (map g.T.Nla.attribute l.nlas));
}
