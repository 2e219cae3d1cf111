use Rattle.std.proofs.Common.{None, Some, inl, inr, refl}
use Rattle.std.specs.Result.{result_err}
use Rattle.netlink_core.specs.Walk.{buffered_attribute}
use Rattle.sockdiag_c.proofs.Explaining.{error_of_view, explained_view}
use Rattle.sockdiag_c.proofs.error_details.explain_item.Goals as goal

pub returns-in-Some-Ok : goal.returns-in-Some-Ok
returns-in-Some-Ok g c =
    let start = rw (c.new.ensures, c.in-Some-Ok.field-0-is) at c.in-Some-Ok.ensures.steps in
    let view = c.read_view.ensures in (
      result_err c.read_view.result,
      inr (inl (
        buffered_attribute c.in-Some-Ok.nla,
        _,
        start,
        error_of_view g.V.FamilyView.model c.read_view.result _ view.value view.error,
      )),
      explained_view _ _ _ c.read_view.result c.explain.ensures,
    )

pub returns-in-Some-Err : goal.returns-in-Some-Err
returns-in-Some-Err g c =
    let stop = rw (c.new.ensures, c.in-Some-Err.field-0-is) at c.in-Some-Err.ensures.steps in (
      Some c.in-Some-Err.framing_error,
      inr (inr (_, stop.0, stop.1, refl)),
      c.explain-in-Some-Err.ensures,
    )

pub returns-in-None : goal.returns-in-None
returns-in-None g c =
    let none = rw c.new.ensures at c.in-None.ensures.steps in
    (None, inl (none.0, refl), (refl, refl))
