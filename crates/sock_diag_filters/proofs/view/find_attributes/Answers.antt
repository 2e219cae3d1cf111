use Rattle.std.proofs.Common.{[], ◌∷◌, ◌++◌, refl}
use Rattle.std.proofs.lemmas.Result.{err_from_is_err_and}
use Rattle.netlink_core.proofs.Iterating.{nothing_decoded_yet, all_attributes_decoded}
use Rattle.netlink_core.proofs.Iterating.{next_attribute_decoded, framing_error_of_all}
use Rattle.netlink_core.proofs.Iterating.{value_error_of_all}
use Rattle.sock_diag_filters.specs.InetRequests.{decode_request_attribute}
use Rattle.sock_diag_filters.specs.private.AttributeSearch.{optional_request_content}
use Rattle.sock_diag_filters.proofs.LastAttributes.{has_last_contents_after}
use Rattle.sock_diag_filters.proofs.view.find_attributes.Goals as goal

pub loop-item-init : goal.loop-item-init
loop-item-init c = record {
  so_far = [];
  walk = rw (c.into_iter-item-iterator.ensures.into_iter_gives, c.new-item-items.ensures)
      (nothing_decoded_yet decode_request_attribute _);
  keeps = record { program = refl; protocol = refl };
}

pub returns-in_err-attribute-clause-error : goal.returns-in_err-attribute-clause-error
returns-in_err-attribute-clause-error c =
    let p = err_from_is_err_and c.from_residual.result c.from_residual.ensures.1 in
    let stop = rw c.in_err-attribute.was at c.in-Some.ensures.steps in
    let inv = c.loop-item.invariant in
    rw (p.1, p.2) (framing_error_of_all decode_request_attribute _ _ inv.so_far _ inv.walk stop.0
    stop.1)

pub returns-in_err-decoded-clause-error : goal.returns-in_err-decoded-clause-error
returns-in_err-decoded-clause-error c =
    let p = err_from_is_err_and c.from_residual-in_err-decoded.result
    c.from_residual-in_err-decoded.ensures.1 in
    let start = rw c.in_ok-attribute.was at c.in-Some.ensures.steps in
    let inv = c.loop-item.invariant in
    rw (p.1, p.2) (value_error_of_all decode_request_attribute _ _ _ inv.so_far _ _ inv.walk start
    c.in_err-decoded.ensures)

pub loop-item-preserved : goal.loop-item-preserved
loop-item-preserved c =
    let inv = c.loop-item.invariant in
    let start = rw c.in_ok-attribute.was at c.in-Some.ensures.steps in
    record {
      so_far = inv.so_far ++ optional_request_content c.in_ok-decoded.decoded ∷ [];
      walk = next_attribute_decoded decode_request_attribute _ _ _ inv.so_far _ _ inv.walk start
          c.in_ok-decoded.ensures;
      keeps = rw c.with-found.ensures (has_last_contents_after _ _ _ inv.keeps);
    }

pub returns-clause-value : goal.returns-clause-value
returns-clause-value c =
    let inv = c.loop-item.invariant in (
      inv.so_far,
      all_attributes_decoded decode_request_attribute _ _ inv.so_far inv.walk
          c.in-None.ensures.steps.0,
      inv.keeps,
    )
