use Rattle.std.proofs.Common.{◌≡◌, ◌∙◌, ℕ, inl, inr, List, drop, refl, sym, subst}
use Rattle.std.proofs.lemmas.List.{take_rest}
use Rattle.netlink_core.specs.Attribute.{Attribute, StartsWithAttribute}
use Rattle.netlink_core.specs.Walk.{buffered_attribute, unread_bytes}
use Rattle.sockdiag_c.proofs.Steps.{attribute_passed}
use Rattle.sockdiag_c.proofs.walks.sockdiag_next_attribute.Goals as goal

pub returns-in-Some-Ok : goal.returns-in-Some-Ok
returns-in-Some-Ok c =
    let bytes = c.args.bytes.now in
    let offset = c.args.cursor.now.offset in
    let rest = unread_bytes c.next.new.self in
    let given = rw c.in-Some-Ok.field-0-is at c.in-Some-Ok.ensures.steps in
    let a : Attribute = record {
      type_word = c.type_word-attribute.result;
      value = c.value.result.now;
    } in
    let same : buffered_attribute c.in-Some-Ok.nla ≡ a =
    λ i. record {
      type_word = sym c.type_word-attribute.ensures i;
      value = sym c.value.ensures i;
    } in
    let left : unread_bytes c.new.result ≡ drop offset bytes = c.new.ensures
    ∙ take_rest bytes offset in
    let start : StartsWithAttribute (drop offset bytes) a rest =
    subst (λ (b : List ℕ). StartsWithAttribute b a rest) left
    (subst (λ (x : Attribute). StartsWithAttribute (unread_bytes c.new.result) x rest) same
    given) in
    inr (inl (
      refl,
      attribute_passed bytes rest offset c.padded.result a start c.padded.ensures,
      refl,
    ))
