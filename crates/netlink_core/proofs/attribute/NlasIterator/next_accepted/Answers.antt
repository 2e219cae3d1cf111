use Rattle.std.proofs.Common.{arith}
use Rattle.std.proofs.lemmas.List.{drop-drop, take_rest}
use Rattle.netlink_core.proofs.Padding.{starts_with_attribute}
use Rattle.netlink_core.proofs.attribute.NlasIterator.next_accepted.Goals as goal

pub returns : goal.returns
returns c =
    grind (
      arith,
      starts_with_attribute,
      take_rest,
      drop-drop,
      c.new-nla.ensures,
      c.skip.ensures,
      c.length.ensures,
    )
