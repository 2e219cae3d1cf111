-- Items of facts.
use Rattle.std.proofs.Common.{◌≡◌, List, [], ◌∷◌, ◌++◌, ◌∙◌, ap, append_assoc, flat_map}
use Rattle.std.proofs.Common.{map, sym}
use Rattle.sslist_facts.specs.Facts.{AddsFacts, AddsItems, Facts, NumberRow, SinkContent, both}
use Rattle.sslist_facts.specs.Facts.{facts_of_each, no_facts, number_row_facts, numbers}

-- The items of facts of rows, which are mapped from a list.
pub items_of_mapped : {I X Y : Type 0} (items : Facts → List I) → items no_facts ≡ []
    → ((a b : Facts) → items (both a b) ≡ items a ++ items b) → (f : X → Facts) (g : Y → X)
    (ys : List Y) → items (facts_of_each f (map g ys)) ≡ flat_map (λ y. items (f (g y))) ys
items_of_mapped items none joined f g [] = none
items_of_mapped items none joined f g (y ∷ later) =
    joined (f (g y)) (facts_of_each f (map g later))
    ∙ ap (λ t. items (f (g y)) ++ t) (items_of_mapped items none joined f g later)

-- The parts of a group, which are appended one after the other.
pub shown_group : {I W : Type 0} {items : Facts → List I} (content : W → SinkContent items)
    (old begun filled new : W) (first inner last all : List I)
    → AddsItems (content old) (content begun) first
    → AddsItems (content begun) (content filled) inner
    → all ≡ first ++ (inner ++ last)
    → AddsItems (content filled) (content new) last
    → AddsItems (content old) (content new) all
shown_group content old begun filled new first inner last all begins shows parts ends = (
  ends.0 ∙ shows.0 ∙ begins.0,
  ends.1 ∙ ap (λ t. t ++ last) (shows.1 ∙ ap (λ t. t ++ inner) begins.1)
      ∙ append_assoc ((content old).shown ++ first) inner last
      ∙ append_assoc (content old).shown first (inner ++ last)
      ∙ ap (λ t. (content old).shown ++ t) (sym parts),
)

-- Three facts, which are appended one after the other.
pub shown_three : {I W : Type 0} {items : Facts → List I} (content : W → SinkContent items)
    → ((a b : Facts) → items (both a b) ≡ items a ++ items b)
    → (old one two new : W) (first second third : Facts)
    → AddsFacts (content old) (content one) first
    → AddsFacts (content one) (content two) second
    → AddsFacts (content two) (content new) third
    → AddsFacts (content old) (content new) (both first (both second third))
shown_three {items = items} content joined old one two new first second third adds_first
    adds_second adds_third =
    shown_group content old one two new (items first) (items second) (items third)
    (items (both first (both second third))) adds_first adds_second
    (joined first (both second third) ∙ ap (λ later. items first ++ later) (joined second third))
    adds_third

-- The items of a list of numbers.
pub items_of_numbers : {I Y : Type 0} (items : Facts → List I) → items no_facts ≡ []
    → ((a b : Facts) → items (both a b) ≡ items a ++ items b) → (g : Y → NumberRow)
    (ys : List Y) → items (numbers (map g ys))
    ≡ flat_map (λ y. items (number_row_facts (g y))) ys
unfolding numbers
items_of_numbers items none joined g ys = items_of_mapped items none joined number_row_facts g ys
