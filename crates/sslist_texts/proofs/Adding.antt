-- A text that is appended to.
use Rattle.std.proofs.Common.{◌≡◌, ℕ, ◌+◌, ◌<◌, ◌≤◌, List, [], ◌++◌, append_assoc, append-nil}
use Rattle.std.proofs.Common.{arith, drop, flat_map, get_or, length, refl, sym, ◌∙◌, Bool, true}
use Rattle.std.proofs.Common.{false, if◌then◌else◌, Err, Ok, OnOk, Result, is_ok}
use Rattle.std.proofs.lemmas.List.{drop_all, drop_more}

-- Two texts that are appended are their concatenation.
pub appended_texts_concatenate : (old mid new x y : List ℕ) → mid ≡ old ++ x → new ≡ mid ++ y
    → new ≡ old ++ (x ++ y)
appended_texts_concatenate old mid new x y first second =
    grind (arith, append_assoc old x y)

-- Three texts that are appended are their concatenation.
pub three_texts_concatenate : (old a b new x y z : List ℕ) → a ≡ old ++ x → b ≡ a ++ y
    → new ≡ b ++ z → new ≡ old ++ (x ++ (y ++ z))
three_texts_concatenate old a b new x y z first second third =
    rw (third, second, first, append_assoc (old ++ x) y z, append_assoc old x (y ++ z)) refl

-- A text that is appended after three others is their concatenation.
pub sentence_continues : (old mid new x y z more : List ℕ) → mid ≡ old ++ (x ++ (y ++ z))
    → new ≡ mid ++ more → new ≡ old ++ (x ++ (y ++ (z ++ more)))
sentence_continues old mid new x y z more first second =
    rw (
      second,
      first,
      append_assoc old (x ++ (y ++ z)) more,
      append_assoc x (y ++ z) more,
      append_assoc y z more,
    ) refl

-- A loop that appends a part for each element has appended one more: its text and the remaining
-- parts are still the same text.
pub one_more_part_appended : {X A : Type 0} (part : X → List A) (elements : List X) (index : ℕ)
    (default : X) (old new all : List A)
    → index < length elements → new ≡ old ++ part (get_or elements index default)
    → old ++ flat_map part (drop index elements) ≡ all
    → new ++ flat_map part (drop (index + 1) elements) ≡ all
one_more_part_appended part elements index default old new all in_range added so_far =
    rw (added, append_assoc) (rw (drop_more elements index default in_range) at so_far)

-- The same of a loop whose element is named.
pub one_more_element_appended : {X A : Type 0} (part : X → List A) (elements : List X) (index : ℕ)
    (element : X) (old new all : List A)
    → index < length elements → element ≡ get_or elements index element
    → new ≡ old ++ part element → old ++ flat_map part (drop index elements) ≡ all
    → new ++ flat_map part (drop (index + 1) elements) ≡ all
one_more_element_appended part elements index element old new all in_range is added so_far =
    one_more_part_appended part elements index element old new all in_range
    (rw (sym is) added) so_far

-- A part that a condition selects was appended.
pub selected_part_appended : {A : Type 0} (b : Bool) (part old new : List A) → b ≡ true
    → new ≡ old ++ part → new ≡ old ++ (if b then part else [])
selected_part_appended b part old new is added =
    rw is added

-- A part that a condition does not select is nothing.
pub unselected_part_absent : {A : Type 0} (b : Bool) (part old : List A) → b ≡ false
    → old ≡ old ++ (if b then part else [])
unselected_part_absent b part old is =
    rw is (sym (append-nil old))

-- A text that a call appended, if it did not fail, was appended.
pub appended_on_success : {E : Type 0} (result : Result (Unit {0}) E) (old new text other : List ℕ)
    → new ≡ (if is_ok result then old ++ text else other) → OnOk result (new ≡ old ++ text)
appended_on_success (Ok u) old new text other h = h
appended_on_success (Err e) old new text other h = tt

-- A loop that has appended the parts of all elements has appended the whole.
pub all_parts_appended : {X A : Type 0} (part : X → List A) (elements : List X) (index : ℕ)
    (text all : List A)
    → length elements ≤ index → text ++ flat_map part (drop index elements) ≡ all → text ≡ all
all_parts_appended part elements index text all end so_far =
    sym (append-nil text) ∙ (rw (drop_all index elements end) at so_far)
