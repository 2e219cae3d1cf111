use Rattle.std.proofs.Common.{◌≡◌, ◌∙◌, ℕ, ap, sym, arith}
use Rattle.std.proofs.lemmas.List.{take_rest}
use Rattle.netlink_captures.specs.Pcapng.{unit_in}
use Rattle.netlink_captures.proofs.PcapngLemmas.{unit_after_last, unit_at_end, unit_cut, unit_found}
use Rattle.netlink_captures.proofs.PcapngLemmas.{unit_later, unit_of_none, unit_past}
use Rattle.netlink_captures.proofs.pcapng.find_unit.Goals as goal

pub returns-then-is_empty : goal.returns-then-is_empty
returns-then-is_empty c =
    sym (unit_at_end c.options.count c.args.order c.options.remaining.now (omega arith)
    (sym c.is_empty.ensures ∙ c.if-is_empty.true)) ∙ c.options.invariant

pub returns-then-remaining-lt4 : goal.returns-then-remaining-lt4
returns-then-remaining-lt4 c =
    sym (unit_cut c.options.count c.args.order c.options.remaining.now (omega arith)
    (sym c.is_empty.ensures ∙ c.if-is_empty.false) (omega arith)) ∙ c.options.invariant

pub returns-then-u16_at-eq-END_OF_OPTIONS : goal.returns-then-u16_at-eq-END_OF_OPTIONS
returns-then-u16_at-eq-END_OF_OPTIONS c =
    sym (unit_after_last c.options.count c.args.order c.options.remaining.now (omega arith)
    (omega arith) (omega arith)) ∙ c.options.invariant

pub returns-then-remaining-size : goal.returns-then-remaining-size
returns-then-remaining-size c =
    sym (unit_past c.options.count c.args.order c.options.remaining.now (omega arith)
    (omega arith) (λ z. absurd (omega arith)) (omega arith)) ∙ c.options.invariant

pub returns-then-u16_at-eq-TIME_RESOLUTION : goal.returns-then-u16_at-eq-TIME_RESOLUTION
returns-then-u16_at-eq-TIME_RESOLUTION c =
    c.unit_in_option.ensures
    ∙ sym (unit_found c.options.count c.args.order c.options.remaining.now (omega arith)
    (omega arith) (omega arith) (omega arith)) ∙ c.options.invariant

pub options-preserved : goal.options-preserved
options-preserved c =
    let later = unit_later c.options.count c.args.order c.options.remaining.now (omega arith)
    (omega arith) (λ z. absurd (omega arith)) (λ z. absurd (omega arith)) (omega arith) in
    rw (take_rest c.options.remaining.now c.option_size-size.result, c.option_size-size.ensures)
    (sym later ∙ c.options.invariant)

pub returns : goal.returns
returns c =
    let none : c.options.count ≡ 0 = omega arith in
    sym (unit_of_none c.args.order c.options.remaining.now)
    ∙ ap (λ (n : ℕ). unit_in n c.args.order c.options.remaining.now) (sym none)
    ∙ c.options.invariant
