use Rattle.std.proofs.Common.{[], inl, refl}
use Rattle.std.proofs.lemmas.Grind.{merely}
use Rattle.netlink_packet_sock_diag.specs.Feed.{new_dump}
use Rattle.netlink_packet_sock_diag.proofs.dump.generic.GenericDump.new.Goals as goal

pub invariant_of-result : goal.invariant_of-result
invariant_of-result g c = record {
  unnumbered = λ is. refl;
  fed = rw c.new.ensures.items (merely ([], new_dump, refl, inl refl));
}
