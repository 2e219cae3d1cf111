use Rattle.std.proofs.Common.{◌≢◌, rules, [], ◌∷◌, ◌++◌, refl, sym, ◌∙◌}
use Rattle.std.specs.Prelude.{string_bytes}
use Rattle.std.proofs.lemmas.List.{take_rest}
use Rattle.std.proofs.lemmas.Result.{err_from_is_err_and}
use Rattle.netlink_core.specs.Walk.{buffered_attribute}
use Rattle.sock_diag_examples.specs.Link.{decodes_link, name_attribute, mtu_attribute}
use Rattle.sock_diag_examples.specs.Link.{other_attribute, name_in, mtu_in}
use Rattle.netlink_core.proofs.Iterating.{nothing_decoded_yet, all_attributes_decoded}
use Rattle.netlink_core.proofs.Iterating.{next_attribute_decoded, framing_error_of_all}
use Rattle.netlink_core.proofs.Iterating.{value_error_of_all}
use Rattle.sock_diag_examples.proofs.LinkDecodes.{framing_error_is_not_memory, last_found}
use Rattle.sock_diag_examples.proofs.LinkDecodes.{later_name, name_here, none_found}
use Rattle.sock_diag_examples.proofs.LinkDecodes.{number_error_is_not_memory, rejects_mtu}
use Rattle.sock_diag_examples.proofs.LinkDecodes.{rejects_name, decodes_mtu, decodes_name}
use Rattle.sock_diag_examples.proofs.LinkDecodes.{decodes_other}
use Rattle.sock_diag_examples.proofs.link.parse_link.Goals as goal

pub loop-item-init : goal.loop-item-init
loop-item-init c = record {
  found = [];
  walk = rw (
    c.into_iter-item-iterator.ensures.into_iter_gives,
    c.new-item-items.ensures,
    take_rest c.args.payload.now 16,
  ) (nothing_decoded_yet decodes_link _);
  later = rw (
    c.into_iter-item-iterator.ensures.into_iter_gives,
    c.new-item-items.ensures,
    take_rest c.args.payload.now 16,
  ) (λ w. w);
  name = refl;
  mtu = refl;
}

pub returns-in_err-attribute-clause-error : goal.returns-in_err-attribute-clause-error
returns-in_err-attribute-clause-error c =
    let stop = rw c.in_err-attribute.was at c.in-Some.ensures.steps in
    let p = err_from_is_err_and c.from_residual.result c.from_residual.ensures.1 in
    let inv = c.loop-item.invariant in
    rw (p.1, p.2) (
      c.if-payload-lt-IFINFOMSG_LEN.false,
      λ _. framing_error_of_all decodes_link _ _ inv.found _
          inv.walk stop.0 stop.1,
      λ memory. absurd (framing_error_is_not_memory _ _ stop.1 memory),
    )

pub returns-in_err-parse_string-in-3-clause-error :
    goal.returns-in_err-parse_string-in-3-clause-error
returns-in_err-parse_string-in-3-clause-error c =
    let inv = c.loop-item.invariant in
    let a = buffered_attribute c.in_ok-attribute.attribute in
    let start = rw c.in_ok-attribute.was at c.in-Some.ensures.steps in
    let error = rw c.value.ensures at c.in_err-parse_string-in-3.ensures.error in
    let wanted = rw c.value.ensures at c.in_err-parse_string-in-3.ensures.memory in
    let p = err_from_is_err_and c.from_residual-in_err-parse_string-in-3.result
    c.from_residual-in_err-parse_string-in-3.ensures.1 in
    rw (p.1, p.2) (
      c.if-payload-lt-IFINFOMSG_LEN.false,
      λ named. value_error_of_all decodes_link _ _ _ inv.found a _ inv.walk start
          (rejects_name a _ (sym c.kind.ensures ∙ c.in-3.is) (error named)),
      λ memory. inv.later (name_here _ _ a start (sym c.kind.ensures ∙ c.in-3.is) (wanted memory)),
    )

pub loop-item-preserved-in_ok-parse_string-in-3 : goal.loop-item-preserved-in_ok-parse_string-in-3
loop-item-preserved-in_ok-parse_string-in-3 c =
    let inv = c.loop-item.invariant in
    let a = buffered_attribute c.in_ok-attribute.attribute in
    let start = rw c.in_ok-attribute.was at c.in-Some.ensures.steps in
    let name = string_bytes c.in_ok-parse_string-in-3.field-0 in
    let tells = decodes_name a name (sym c.kind.ensures ∙ c.in-3.is)
    (rw c.value.ensures at c.in_ok-parse_string-in-3.ensures.value) in
    record {
      found = inv.found ++ name_attribute name ∷ [];
      walk = next_attribute_decoded decodes_link _ _ _ inv.found a
          (name_attribute name) inv.walk start tells;
      later = λ w. inv.later (later_name _ _ a (name_attribute name) start tells w);
      name = sym (last_found name_in inv.found (name_attribute name) name refl);
      mtu = inv.mtu ∙ sym (none_found mtu_in inv.found (name_attribute name) refl);
    }

pub loop-item-preserved-in_ok-parse_string-in-3-2 :
    goal.loop-item-preserved-in_ok-parse_string-in-3-2
loop-item-preserved-in_ok-parse_string-in-3-2 c =
    let inv = c.loop-item.invariant in
    let a = buffered_attribute c.in_ok-attribute.attribute in
    let start = rw c.in_ok-attribute.was at c.in-Some.ensures.steps in
    let name = string_bytes c.in_ok-parse_string-in-3.field-0 in
    let tells = decodes_name a name (sym c.kind.ensures ∙ c.in-3.is)
    (rw c.value.ensures at c.in_ok-parse_string-in-3.ensures.value) in
    record {
      found = inv.found ++ name_attribute name ∷ [];
      walk = next_attribute_decoded decodes_link _ _ _ inv.found a
          (name_attribute name) inv.walk start tells;
      later = λ w. inv.later (later_name _ _ a (name_attribute name) start tells w);
      name = sym (last_found name_in inv.found (name_attribute name) name refl);
      mtu = inv.mtu ∙ sym (none_found mtu_in inv.found (name_attribute name) refl);
    }

pub returns-in_err-parse_u32-in-4-clause-error : goal.returns-in_err-parse_u32-in-4-clause-error
returns-in_err-parse_u32-in-4-clause-error c =
    let inv = c.loop-item.invariant in
    let a = buffered_attribute c.in_ok-attribute.attribute in
    let start = rw c.in_ok-attribute.was at c.in-Some.ensures.steps in
    let error = rw c.value-in-4.ensures at c.in_err-parse_u32-in-4.ensures in
    let p = err_from_is_err_and c.from_residual-in_err-parse_u32-in-4.result
    c.from_residual-in_err-parse_u32-in-4.ensures.1 in
    rw (p.1, p.2) (
      c.if-payload-lt-IFINFOMSG_LEN.false,
      λ _. value_error_of_all decodes_link _ _ _ inv.found a _ inv.walk start
          (rejects_mtu a _ (sym c.kind.ensures ∙ c.in-4.is) (sym error)),
      λ memory. absurd (number_error_is_not_memory _ _ (sym error) memory),
    )

pub loop-item-preserved-in-4 : goal.loop-item-preserved-in-4
loop-item-preserved-in-4 c =
    let inv = c.loop-item.invariant in
    let a = buffered_attribute c.in_ok-attribute.attribute in
    let start = rw c.in_ok-attribute.was at c.in-Some.ensures.steps in
    let mtu = c.in_ok-parse_u32-in-4.field-0 in
    let number = rw c.value-in-4.ensures at c.in_ok-parse_u32-in-4.ensures in
    let tells = decodes_mtu a mtu (sym c.kind.ensures ∙ c.in-4.is) (sym number) in
    record {
      found = inv.found ++ mtu_attribute mtu ∷ [];
      walk = next_attribute_decoded decodes_link _ _ _ inv.found a
          (mtu_attribute mtu) inv.walk start tells;
      later = λ w. inv.later (later_name _ _ a (mtu_attribute mtu) start tells w);
      name = inv.name ∙ sym (none_found name_in inv.found (mtu_attribute mtu) refl);
      mtu = sym (last_found mtu_in inv.found (mtu_attribute mtu) mtu refl);
    }

pub loop-item-preserved : goal.loop-item-preserved
loop-item-preserved c =
    let inv = c.loop-item.invariant in
    let a = buffered_attribute c.in_ok-attribute.attribute in
    let start = rw c.in_ok-attribute.was at c.in-Some.ensures.steps in
    let no_name : c.kind.result ≢ 3 = search rules in
    let no_mtu : c.kind.result ≢ 4 = search rules in
    let tells = decodes_other a (λ is. no_name (c.kind.ensures ∙ is))
    (λ is. no_mtu (c.kind.ensures ∙ is)) in
    record {
      found = inv.found ++ other_attribute ∷ [];
      walk = next_attribute_decoded decodes_link _ _ _ inv.found a other_attribute inv.walk start
          tells;
      later = λ w. inv.later (later_name _ _ a other_attribute start tells w);
      name = inv.name ∙ sym (none_found name_in inv.found other_attribute refl);
      mtu = inv.mtu ∙ sym (none_found mtu_in inv.found other_attribute refl);
    }

pub returns-clause-value : goal.returns-clause-value
returns-clause-value c =
    let inv = c.loop-item.invariant in (
      inv.found,
      c.if-payload-lt-IFINFOMSG_LEN.false,
      all_attributes_decoded decodes_link _ _ inv.found inv.walk
          c.in-None.ensures.steps.0,
      inv.name,
      inv.mtu,
    )
