use Rattle.std.proofs.Common.{◌≡◌, List, None, drop}
use Rattle.std.specs.List.{filter_map, last_or}
use Rattle.netlink_core.specs.Walk.{unread_bytes}
use Rattle.netlink_core.proofs.Iterating.{DecodedSoFar}
use Rattle.sock_diag_examples.specs.Link.{HasName, LinkAttribute, decodes_link, mtu_in, name_in}
use Rattle.sock_diag_examples.specs.Link.{string_content}
use Rattle.sock_diag_examples.proofs.link.parse_link.Given as goal

-- the name and the MTU of the attributes so far; the last one of each counts
abbrev pub invariant-loop-item : goal.invariant-loop-item
invariant-loop-item l = record {
  found : List LinkAttribute;
  walk : DecodedSoFar decodes_link (drop 16 l.payload) found (unread_bytes l.item-iterator);
  later : HasName (unread_bytes l.item-iterator) → HasName (drop 16 l.payload);
  name : string_content l.link.name ≡ last_or None (filter_map name_in found);
  mtu : l.link.mtu ≡ last_or None (filter_map mtu_in found);
}
