use Rattle.std.proofs.Common.{arith, ◌++◌, ◌∙◌, ap, List, ℕ, chars, flat_map}
use Rattle.std.proofs.lemmas.Result.{on_ok_weaker}
use Rattle.sslist_texts.specs.Escapes.{shown_character}
use Rattle.sslist_texts.proofs.Utf8Names.{utf8_is_shown_by_character}
use Rattle.sslist_texts.proofs.Utf8Names.{other_bytes_are_shown_by_byte}
use Rattle.sslist_texts.proofs.ShownNames.{unescaped_shown_name}
use Rattle.sslist_texts.proofs.VisibleNames.{visible_shown_name}
use Rattle.sslist_texts.proofs.names.push_shown.Goals as goal

pub returns-in-Ok-clause-shown : goal.returns-in-Ok-clause-shown
returns-in-Ok-clause-shown c =
    let is = c.in-Ok.ensures.cases in
    on_ok_weaker c.push_chars.result
    (λ added. added
    ∙ ap (λ (t : List ℕ). c.args.text.now.items ++ flat_map shown_character (chars t)) is.0
    ∙ ap (λ (t : List ℕ). c.args.text.now.items ++ t)
    (utf8_is_shown_by_character c.args.utf8 c.args.bytes.now c.if-not-utf8.false is.1))
    c.push_chars.ensures

pub returns-in-Err-clause-shown : goal.returns-in-Err-clause-shown
returns-in-Err-clause-shown c =
    on_ok_weaker c.push_escaped-in-Err.result
    (λ added. added ∙ ap (λ (t : List ℕ). c.args.text.now.items ++ t)
    (other_bytes_are_shown_by_byte c.args.utf8 c.args.bytes.now c.in-Err.ensures.cases.0))
    c.push_escaped-in-Err.ensures

pub returns-then-not-utf8-clause-unescapes : goal.returns-then-not-utf8-clause-unescapes
returns-then-not-utf8-clause-unescapes c =
    λ later. unescaped_shown_name c.args.utf8 c.args.bytes.now later
    (λ i. omega (arith, c.type_inv.bytes i))

pub returns-in-Ok-clause-unescapes : goal.returns-in-Ok-clause-unescapes
returns-in-Ok-clause-unescapes c =
    λ later. unescaped_shown_name c.args.utf8 c.args.bytes.now later
    (λ i. omega (arith, c.type_inv.bytes i))

pub returns-in-Err-clause-unescapes : goal.returns-in-Err-clause-unescapes
returns-in-Err-clause-unescapes c =
    λ later. unescaped_shown_name c.args.utf8 c.args.bytes.now later
    (λ i. omega (arith, c.type_inv.bytes i))

pub returns-then-not-utf8-clause-visible : goal.returns-then-not-utf8-clause-visible
returns-then-not-utf8-clause-visible c =
    visible_shown_name c.args.utf8 c.args.bytes.now (λ i. omega (arith, c.type_inv.bytes i))

pub returns-in-Ok-clause-visible : goal.returns-in-Ok-clause-visible
returns-in-Ok-clause-visible c =
    visible_shown_name c.args.utf8 c.args.bytes.now (λ i. omega (arith, c.type_inv.bytes i))

pub returns-in-Err-clause-visible : goal.returns-in-Err-clause-visible
returns-in-Err-clause-visible c =
    visible_shown_name c.args.utf8 c.args.bytes.now (λ i. omega (arith, c.type_inv.bytes i))
