use Rattle.std.proofs.Common.{◌≡◌, ◌+◌, ◌∷◌, refl, ◌≤◌, length, ap, rules, arith}
use Rattle.std.specs.List.{flat_map}
use Rattle.std.proofs.lemmas.List.{length-append}
use Rattle.netlink_core.specs.Attribute.{Attribute, attribute_bytes}
use Rattle.netlink_core.specs.AttributeSet.{encode_attribute}
use Rattle.netlink_core.specs.Walk.{unread_bytes}
use Rattle.netlink_core.proofs.Writing.{one_more_attribute_written, unchanged_after_one_more}
use Rattle.attribute_lists.specs.AttributesIn.{encoded_attributes_in}
use Rattle.attribute_lists.proofs.views.emit_views.Goals as goal

pub loop-view-preserved : goal.loop-view-preserved
loop-view-preserved g c =
    let F = g.V.FamilyView.attribute_set in
    let a : Attribute = g.V.Nla.attribute c.in-Some.view in
    let later = encoded_attributes_in F (unread_bytes c.next_view.new.walk) in
    let as_encoded : a ≡ encode_attribute F (g.V.FamilyView.model c.in-Some.view) = search rules in
    let parts : encoded_attributes_in F (unread_bytes c.loop-view.walk) ≡ a ∷ later =
    rw (c.in-Some.ensures.next, as_encoded) refl in
    let fits = rw parts at c.loop-view.invariant.fits in
    let len = rw parts at c.loop-view.invariant.len in
    let long = length-append (attribute_bytes a) (flat_map attribute_bytes later) in
    let in_buffer : c.loop-view.at + c.nla_len.result ≤ length c.loop-view.buffer = omega arith in
    record {
      clean = c.next_view.ensures.rest;
      fits = (fits.0.1, omega arith);
      len = omega arith;
      done = one_more_attribute_written a _ (flat_map attribute_bytes later) _ _ _ _ _
          (ap (flat_map attribute_bytes) parts)
          c.emit_nla.ensures.written (omega arith) in_buffer c.loop-view.invariant.done;
      left = unchanged_after_one_more a _ _ _ _ _ c.emit_nla.ensures.written (omega arith) in_buffer
          c.loop-view.invariant.left;
    }
