use Rattle.std.proofs.Common.{arith, ◌≡◌, ◌∙◌, ◌++◌, ap, rules, pos, Bool, ℕ, Option, Some, false}
use Rattle.jiff.proofs.SpanFacts.{signed_arith}
use Rattle.jiff_fmt.specs.Printer.{options}
use Rattle.jiff_fmt.specs.Text.{datetime_text, zulu_text}
use Rattle.sslist_texts.proofs.UtcTimes.{utc_text_is}
use Rattle.sslist_texts.proofs.times.utc_text.Goals as goal

pub returns-clause-iso : goal.returns-clause-iso
returns-clause-iso c =
    let printed = c.timestamp_text.ensures in
    let chosen : options c.precision-printer.result ≡ (false, 84, Some 9) = search rules in
    let when : c.to_plain.result.nanosecond ≡ pos c.args.nanoseconds =
    grind (arith, signed_arith) in (
      printed.0,
      printed.1 ∙ when,
      printed.2
          ∙ ap (λ (o : Bool × ℕ × Option ℕ). datetime_text o.0 o.1 o.2 printed.0 ++ zulu_text o.0)
          chosen,
    )

pub returns-clause-text : goal.returns-clause-text
returns-clause-text c =
    utc_text_is c.args.nanoseconds _ (returns-clause-iso c) (omega arith)
