use Rattle.std.proofs.Common.{◌∙◌, ◌++◌, ap, sym, List}
use Rattle.std.proofs.lemmas.Result.{on_ok_weaker}
use Rattle.json.specs.Token.{Token}
use Rattle.sslist_lister.proofs.Slots.{tokens_of_others}
use Rattle.sslist_lister.specs.Collected.{other_model}
use Rattle.sslist_lister.specs.JsonAttributes.{other_item}
use Rattle.sslist_texts.proofs.JsonWriting.{joined_array}
use Rattle.sslist_lister.proofs.json_attributes.write_others.Goals as goal

pub returns-clause-members : goal.returns-clause-members
returns-clause-members c =
    let items = tokens_of_others other_item other_model c.args.found.now.others.items in
    let written = rw c.as_slice.ensures.value at c.in_ok-write_items.ensures.tokens in
    on_ok_weaker c.end_array.result
    (λ last. joined_array _ _ _ _ _ _ _ c.in_ok-key.ensures.ok c.in_ok-begin_array.ensures.ok
    (written ∙ ap (λ (t : List Token). c.begin_array.new.self.tokens ++ t) (sym items)) last)
    c.end_array.ensures.ok
