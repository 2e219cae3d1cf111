use Rattle.std.proofs.Common.{length, ap, append_assoc, rules, arith}
use Rattle.std.proofs.lemmas.List.{length-append, map_push}
use Rattle.netlink_core.specs.AttributeSet.{decode_attribute}
use Rattle.attribute_lists.proofs.Finding.{first_value_is_found, length_field_is_valid}
use Rattle.attribute_lists.proofs.Finding.{rest_has_no_error, value_first}
use Rattle.attribute_lists.proofs.owned.own_nlas.Goals as goal

pub next_accepted-requires : goal.next_accepted-requires
next_accepted-requires g c =
    let valid = length_field_is_valid (decode_attribute g.T.FamilyNla.attribute_set) _
    c.loop-nla.invariant.clean in
    record { at_least = λ some. (valid some).0; at_most = λ some. (valid some).1 }

pub push_accepted-requires : goal.push_accepted-requires
push_accepted-requires g c =
    let start = c.in-Some.ensures in
    let first = first_value_is_found (decode_attribute g.T.FamilyNla.attribute_set) _ _ _
    c.loop-nla.invariant.clean
    start in
    let room = rw first.2 at c.loop-nla.invariant.room in
    (search rules, (simp first.1 cc, omega arith))

pub returns-in_err-push_accepted-clause-needs_no_memory :
    goal.returns-in_err-push_accepted-clause-needs_no_memory
returns-in_err-push_accepted-clause-needs_no_memory g c = λ few each.
    let start = c.in-Some.ensures in
    let first = first_value_is_found (decode_attribute g.T.FamilyNla.attribute_set) _ _ _
    c.loop-nla.invariant.clean
    start in
    let spare = rw first.2 at (c.loop-nla.invariant.spare each) in
    let ok = c.in_err-push_accepted.ensures.needs_no_memory first.0 first.1 spare.0 in
    absurd cc

pub loop-nla-preserved : goal.loop-nla-preserved
loop-nla-preserved g c =
    let parses = decode_attribute g.T.FamilyNla.attribute_set in
    let start = c.in-Some.ensures in
    let pushed = c.in_ok-push_accepted.ensures.pushed in
    let next = value_first parses _ _ _ _ start pushed.2 in
    record {
      clean = rest_has_no_error parses _ _ _ _ start pushed.2 c.loop-nla.invariant.clean;
      told = rw pushed.1 (simp (map_push, append_assoc) (rw next at c.loop-nla.invariant.told));
      room = rw (pushed.1, length-append) (omega (arith, ap length next));
      spare = λ each. (rw next at (c.loop-nla.invariant.spare each)).1;
    }
