use Rattle.std.proofs.Common.{◌≡◌, ℕ, inl, inr, [], ◌∷◌, length, ap, refl, rules, arith}
use Rattle.std.proofs.lemmas.List.{length-append}
use Rattle.std.proofs.lemmas.Result.{err_from_is_err_and}
use Rattle.netlink_core.specs.Attribute.{Attribute}
use Rattle.netlink_core.specs.AttributeSet.{decode_attribute, encode_attribute}
use Rattle.netlink_core.specs.Walk.{unread_bytes}
use Rattle.netlink_core.proofs.Iterating.{error_of_rest, error_of_first_attribute}
use Rattle.netlink_core.proofs.Iterating.{StartsWithAttribute-nonempty, attribute_prefix_of_start}
use Rattle.netlink_core.proofs.Splitting.{decoded_or_error_apart}
use Rattle.attribute_lists.specs.AttributesIn.{encoded_attributes_in}
use Rattle.attribute_lists.proofs.Finding.{value_first}
use Rattle.attribute_lists.proofs.FirstAttribute.{no_attribute_is_found}
use Rattle.attribute_lists.proofs.Measuring.{leaves_end, leaves_less, leaves_within}
use Rattle.attribute_lists.proofs.views.check_nlas_len.Goals as goal

pub loop-item-preserved : goal.loop-item-preserved
loop-item-preserved g c =
    let parses = decode_attribute g.V.FamilyView.attribute_set in
    let start = rw c.in_ok-item.was at c.in-Some.ensures.steps in
    let read = c.in_ok-view.ensures.value in
    let kept = c.loop-item.invariant in
    let F = g.V.FamilyView.attribute_set in
    let a : Attribute = g.V.Nla.attribute c.in_ok-view.view in
    let as_encoded : a ≡ encode_attribute F (g.V.FamilyView.model c.in_ok-view.view) =
    search rules in
    let parts : encoded_attributes_in F (unread_bytes c.loop-item.item-iterator)
    ≡ a ∷ encoded_attributes_in F (unread_bytes c.next.new.self) =
    rw (value_first parses _ _ _ _ start read, as_encoded) refl in
    record {
      mean = λ later m. kept.mean (_ ∷ later) (_ ∷ m.0, (_, start, m.1), (read, m.2));
      error = λ e f. kept.error e (error_of_rest parses _ _ _ _ e start read f);
      many = omega (arith, ap length (value_first parses _ _ _ _ start read));
      few = grind (arith, ap length start.parts, length-append {A = ℕ});
      room = leaves_less _ _ _ a _ _ c.room_after-room.ensures (rw parts at kept.room);
    }

pub returns-in_err-item-clause-error : goal.returns-in_err-item-clause-error
returns-in_err-item-clause-error g c =
    let p = err_from_is_err_and c.from_residual.result c.from_residual.ensures.1 in
    let stop = rw c.in_err-item.was at c.in-Some.ensures.steps in
    rw (p.1, p.2) (c.loop-item.invariant.error _
    (error_of_first_attribute (decode_attribute g.V.FamilyView.attribute_set) _ _ stop.0
    (inl stop.1)))

pub returns-in_err-view-clause-error : goal.returns-in_err-view-clause-error
returns-in_err-view-clause-error g c =
    let p = err_from_is_err_and c.from_residual-in_err-view.result
    c.from_residual-in_err-view.ensures.1 in
    let start = rw c.in_ok-item.was at c.in-Some.ensures.steps in
    rw (p.1, p.2) (c.loop-item.invariant.error _
    (error_of_first_attribute (decode_attribute g.V.FamilyView.attribute_set) _ _
    (StartsWithAttribute-nonempty _ _ _ start)
    (inr (_, attribute_prefix_of_start _ _ _ start, c.in_err-view.ensures.error))))

pub returns-clause-clean : goal.returns-clause-clean
returns-clause-clean g c =
    let all = c.loop-item.invariant.mean [] ([], c.in-None.ensures.steps.0, tt) in record {
      none = λ e. decoded_or_error_apart (decode_attribute g.V.FamilyView.attribute_set) _ all.0 e
          all.1;
    }

pub used-requires : goal.used-requires
used-requires g c =
    leaves_within _ _ _ (rw (
      c.in-None.ensures.steps.0,
      no_attribute_is_found,
    ) at c.loop-item.invariant.room)

pub returns-clause-len : goal.returns-clause-len
returns-clause-len g c = leaves_end _ _ _ _
    (rw (c.in-None.ensures.steps.0, no_attribute_is_found) at c.loop-item.invariant.room)
    c.used.ensures
