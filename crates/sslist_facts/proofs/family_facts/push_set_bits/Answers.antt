use Rattle.std.proofs.Common.{◌≡◌, ◌≢◌, ◌+◌, ◌++◌, ◌∷◌, [], ℕ, List, append-nil, arith}
use Rattle.std.proofs.Common.{bit_and, get_or}
use Rattle.sslist_facts.specs.FamilyFacts.{group_of_bit}
use Rattle.sslist_texts.proofs.Adding.{all_parts_appended, one_more_part_appended}
use Rattle.sslist_facts.proofs.family_facts.push_set_bits.Goals as goal
use Rattle.sslist_facts.proofs.family_facts.push_set_bits.Goals.{else-byte-bit-ne0}
use Rattle.sslist_facts.proofs.family_facts.push_set_bits.Goals.{then-byte-bit-ne0+in_ok-push}

-- The group of a bit that is set was appended.
group_added : (first byte index : ℕ) (row : ℕ × ℕ) (old new : List ℕ) → bit_and byte row.0 ≢ 0
    → index ≡ row.1 → new ≡ old ++ (first + index) ∷ []
    → new ≡ old ++ group_of_bit first byte row
group_added first byte index row old new set is added =
    grind arith

-- A bit that is not set has no group.
group_skipped : (first byte : ℕ) (row : ℕ × ℕ) (old : List ℕ) → bit_and byte row.0 ≡ 0
    → old ≡ old ++ group_of_bit first byte row
group_skipped first byte row old unset =
    grind (arith, append-nil)

pub loop-bit-preserved : goal.loop-bit-preserved
loop-bit-preserved c =
    let added : c.if-byte-bit-ne0.groups.items ≡ c.loop-bit.groups.items
    ++ group_of_bit c.args.first c.args.byte (get_or c.args.rows.now c.loop-bit.bit-index (0, 0)) =
    elim c.if-byte-bit-ne0.branch [
      | then-byte-bit-ne0+in_ok-push w ↦ rw w.groups-is
          (group_added _ _ _ _ _ _ w.if-byte-bit-ne0.true w.from.ensures w.in_ok-push.ensures.items)
      | else-byte-bit-ne0 w ↦ rw w.groups-is (group_skipped _ _ _ _ w.if-byte-bit-ne0.false)
    ]
    in
    one_more_part_appended (group_of_bit c.args.first c.args.byte) _ _ (0, 0) _ _ _
    c.loop-bit-test.true added c.loop-bit.invariant

pub returns : goal.returns
returns c =
    all_parts_appended (group_of_bit c.args.first c.args.byte) _ _ _ _ c.loop-bit-test.false
    c.loop-bit.invariant
