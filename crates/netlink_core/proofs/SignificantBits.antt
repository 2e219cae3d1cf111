-- Two byte strings with the same tag are equivalent if and only if they have equal bits under the
-- masks of the fields for this tag. Proved once, for each layout whose fields are consecutive.
use Rattle.std.proofs.Common.{◌≡◌, ◌↔◌, ℕ, ◌<◌, ◌^◌, ◌≤◌, IsTrue, List, ◌∷◌, length, Ok}
use Rattle.std.proofs.Common.{slice_index, refl, subst, sym, ◌∙◌, arith}
use Rattle.std.proofs.lemmas.Nat.{and_mask}
use Rattle.std.proofs.Math.Nat.{mod-eq_of_lt}
use Rattle.netlink_core.specs.Bytes.{IsBytes}
use Rattle.netlink_core.specs.SignificantBits.{EqualUnder}
use Rattle.netlink_core.specs.Table.{values_of}
use Rattle.netlink_core.specs.laws.LayoutObligations.{fields_are_consecutive, MeetsLayoutConditions}
use Rattle.netlink_core.specs.Layout.{Layout, AreEquivalent, tag_fields}
use Rattle.netlink_core.proofs.TableLaws.{consecutive_from_test, significant_masks, values_and_bits}

-- A layout whose fields are consecutive for each tag, and have `size` bytes. Bytes that are long
-- enough and have a tag have at least the size of this tag.
module _ {Param Tag Value : Type 0} (layout : Layout Param Tag Value) (size : Tag → ℕ)
    (tables : (param : Param) (tag : Tag) (left : List ℕ) → layout.tag_for param left ≡ Ok tag
    → IsTrue (fields_are_consecutive 0 (tag_fields layout tag) (size tag)))
    (enough : (param : Param) (tag : Tag) (left : List ℕ) → layout.least ≤ length left
    → layout.tag_for param left ≡ Ok tag → size tag ≤ length left) where
  -- both are long enough, have the same tag, and have equal bits under the masks of its fields
  abbrev pub EqualByTag : Param → List ℕ → List ℕ → Type 0
  EqualByTag param b c = (layout.least ≤ length b) × (layout.least ≤ length c) × (tag : Tag)
      × (layout.tag_for param b ≡ Ok tag) × (layout.tag_for param c ≡ Ok tag)
      × EqualUnder (significant_masks (tag_fields layout tag)) b c

  -- with the same tag, values are equal if and only if bits are equal under the masks
  values_and_masks : (param : Param) (tag : Tag) (b c : List ℕ) → IsBytes b → IsBytes c
      → layout.least ≤ length b → layout.least ≤ length c
      → layout.tag_for param b ≡ Ok tag → layout.tag_for param c ≡ Ok tag
      → (values_of (tag_fields layout tag) b ≡ values_of (tag_fields layout tag) c)
      ↔ EqualUnder (significant_masks (tag_fields layout tag)) b c
  values_and_masks param tag b c hb hc lb lc tb tc =
      values_and_bits 0 (tag_fields layout tag) (size tag) b c
      (consecutive_from_test 0 (tag_fields layout tag) (size tag) (tables param tag b tb)) hb hc
      (enough param tag b lb tb) (enough param tag c lc tc)

  equal_if_equivalent : (param : Param) (b c : List ℕ) → IsBytes b → IsBytes c
      → AreEquivalent layout param b c → EqualByTag param b c
  equal_if_equivalent param b c hb hc (tag, values, (lb, tb, vb), (lc, tc, vc)) =
      (lb, lc, tag, tb, tc, (values_and_masks param tag b c hb hc lb lc tb tc).0 (vb ∙ sym vc))

  equivalent_if_equal : (param : Param) (b c : List ℕ) → IsBytes b → IsBytes c
      → EqualByTag param b c → AreEquivalent layout param b c
  equivalent_if_equal param b c hb hc (lb, lc, tag, tb, tc, equal) = (
    tag,
    values_of (tag_fields layout tag) b,
    (lb, tb, refl),
    (lc, tc, sym ((values_and_masks param tag b c hb hc lb lc tb tc).1 equal)),
  )

  pub equivalent_by_tag : (param : Param) (b c : List ℕ) → IsBytes b → IsBytes c
      → AreEquivalent layout param b c ↔ EqualByTag param b c
  equivalent_by_tag param b c hb hc =
      (equal_if_equivalent param b c hb hc, equivalent_if_equal param b c hb hc)

-- equivalence by a layout with the same rows for all values, whose fields have these masks
pub equivalent_by_masks : {Value : Type 0} (layout : Layout (Unit {0}) (Unit {0}) Value)
    (masks : List ℕ) → ((left : List ℕ) → layout.tag_for tt left ≡ Ok tt)
    → IsTrue (fields_are_consecutive 0 (tag_fields layout tt) layout.least)
    → significant_masks (tag_fields layout tt) ≡ masks
    → (b c : List ℕ) → IsBytes b → IsBytes c
    → AreEquivalent layout tt b c
    ↔ ((layout.least ≤ length b) × (layout.least ≤ length c) × EqualUnder masks b c)
equivalent_by_masks layout masks tag well_formed same b c hb hc =
    let both = equivalent_by_tag layout (λ t. layout.least) (λ p t left e. well_formed)
    (λ p t left l e. l) tt b c hb hc in
    rw (← same) (
      λ equivalent. let equal = both.0 equivalent in (equal.0, equal.1, equal.5),
      λ equal. both.1 (equal.0, equal.1, tt, tag b, tag c, equal.2),
    )

module _ {Param Tag Value : Type 0} (layout : Layout Param Tag Value)
    (sound : MeetsLayoutConditions layout) where
  -- both byte strings have the same tag, and its fields have these masks
  abbrev pub HasMasks : Param → List ℕ → List ℕ → List ℕ → Type 0
  HasMasks param masks b c = (tag : Tag) × (layout.tag_for param b ≡ Ok tag)
      × (layout.tag_for param c ≡ Ok tag) × (significant_masks (tag_fields layout tag) ≡ masks)

  -- Equivalence by a layout with several tags. `Condition` says, without the layout, that both byte
  -- strings have the same tag, and that its fields have these masks.
  pub equivalent_by_condition : (param : Param) (masks : List ℕ) (Condition : Type 0) (b c : List ℕ)
      → IsBytes b → IsBytes c
      → (layout.least ≤ length b → layout.least ≤ length c → (tag : Tag)
      → layout.tag_for param b ≡ Ok tag → layout.tag_for param c ≡ Ok tag
      → Condition × (significant_masks (tag_fields layout tag) ≡ masks))
      → (layout.least ≤ length b → layout.least ≤ length c → Condition → EqualUnder masks b c
      → HasMasks param masks b c)
      → AreEquivalent layout param b c
      ↔ ((layout.least ≤ length b) × (layout.least ≤ length c) × Condition × EqualUnder masks b c)
  equivalent_by_condition param masks Condition b c hb hc holds has_masks =
      let both = equivalent_by_tag layout sound.size sound.tables sound.room param b c hb hc in
      let equal_under = λ (ms : List ℕ). EqualUnder ms b c in (
        λ equivalent. let (lb, lc, tag, tb, tc, equal) = both.0 equivalent in
            let (condition, same) = holds lb lc tag tb tc in
            (lb, lc, condition, subst equal_under same equal),
        λ (lb, lc, condition, equal).
            let (tag, tb, tc, same) = has_masks lb lc condition equal in
            both.1 (lb, lc, tag, tb, tc, subst equal_under (sym same) equal),
      )

-- bytes with equal bits have the same first byte, if the first mask is 255
pub equal_first_bytes : (masks b c : List ℕ) → IsBytes b → IsBytes c → 1 ≤ length b → 1 ≤ length c
    → slice_index masks 0 ≡ 255 → EqualUnder masks b c → slice_index b 0 ≡ slice_index c 0
equal_first_bytes (m ∷ masks) (x ∷ b) (y ∷ c) hb hc lb lc all_bits e =
    let left : x < 2 ^ 8 = hb 0 in
    let right : y < 2 ^ 8 = hc 0 in
    grind (arith, and_mask x 8, and_mask y 8, mod-eq_of_lt left, mod-eq_of_lt right)
equal_first_bytes masks b c hb hc lb lc all_bits e = grind arith
