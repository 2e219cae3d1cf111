use Rattle.std.proofs.Common.{arith}
use Rattle.netlink_core.specs.AttributeSet.{decode_attribute}
use Rattle.attribute_lists.proofs.Finding.{first_attribute_decodes, rest_has_no_error}
use Rattle.attribute_lists.proofs.Finding.{length_field_is_valid}
use Rattle.attribute_lists.proofs.views.next_view.Goals as goal

pub next_accepted-requires : goal.next_accepted-requires
next_accepted-requires g c =
    let valid = length_field_is_valid (decode_attribute g.V.FamilyView.attribute_set) _ c.requires
    in record {
      at_least = λ some. (valid some).0;
      at_most = λ some. (valid some).1;
    }

pub read_accepted-requires : goal.read_accepted-requires
read_accepted-requires g c =
    grind (arith, first_attribute_decodes (decode_attribute g.V.FamilyView.attribute_set))

pub returns-in-Some-clause-rest : goal.returns-in-Some-clause-rest
returns-in-Some-clause-rest g c =
    rest_has_no_error (decode_attribute g.V.FamilyView.attribute_set) _ _ _ _ c.in-Some.ensures
    c.read_accepted.ensures
    c.requires
