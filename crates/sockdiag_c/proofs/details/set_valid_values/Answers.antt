use Rattle.std.proofs.Common.{◌≡◌, ◌∙◌, ◌++◌, ◌∷◌, None, [], ap, refl, sym}
use Rattle.std.specs.Result.{result_err}
use Rattle.netlink_core.specs.Walk.{buffered_attribute}
use Rattle.sockdiag_c.specs.Family.{value_error}
use Rattle.sockdiag_c.proofs.Rows.{all_attributes, first_unchanged, no_attributes_yet}
use Rattle.sockdiag_c.proofs.Rows.{one_more_attribute, values_after}
use Rattle.sockdiag_c.proofs.details.set_valid_values.Goals as goal

pub loop-item-init : goal.loop-item-init
loop-item-init g c = record {
  so_far = [];
  walk = no_attributes_yet _ _
      (rw (c.into_iter-item-iterator.ensures.into_iter_gives, c.new-item-items.ensures) refl);
  header = refl;
  values = λ values. values;
  first = refl;
}

pub loop-item-preserved : goal.loop-item-preserved
loop-item-preserved g c =
    let family = g.T.ReplyDetails.family in
    let inv = c.loop-item.invariant in
    let a = buffered_attribute c.in-Ok.nla in
    let start = rw c.in-Ok.is at c.in-Some.ensures.steps in
    let is = sym c.in-Ok-read.ensures in
    let fine : value_error family a ≡ None = ap result_err is in
    record {
      so_far = inv.so_far ++ a ∷ [];
      walk = one_more_attribute _ _ _ a inv.so_far start inv.walk;
      header = c.set.ensures.header ∙ inv.header;
      values = λ values. values_after family.read family.rows _ _ inv.so_far a _ is
          c.set.ensures.values (inv.values values);
      first = sym (first_unchanged (value_error family) inv.so_far a fine) ∙ inv.first;
    }

pub returns : goal.returns
returns g c = record {
  header = c.loop-item.invariant.header;
  values = λ values set.
      let inv = c.loop-item.invariant in (
        inv.so_far,
        all_attributes _ _ inv.so_far c.in-None.ensures.steps.0 inv.walk,
        inv.first,
        inv.values values,
      );
}
