-- The parts of a filter are evaluated to what the filter means.
use Rattle.std.proofs.Common.{◌≡◌, ◌∙◌, ℕ, List, [], ◌∷◌, ◌++◌, Bool, Option, None, Some, IsTrue}
use Rattle.std.proofs.Common.{refl, sym, ap, subst, arith}
use Rattle.std.specs.Prelude.{fold, not}
use Rattle.std.proofs.lemmas.List.Sums.{fold-append}
use Rattle.sock_diag_filters.specs.declared.condition.Condition.{Condition}
use Rattle.sock_diag_filters.specs.declared.filter.Filter.{Filter}
use Rattle.sock_diag_filters.specs.declared.filter.Filter.TheVariants as filters
use Rattle.sock_diag_filters.specs.declared.text.facts.SocketFacts.{SocketFacts}
use Rattle.sock_diag_filters.specs.declared.text.parsed.Part.{Part}
use Rattle.sock_diag_filters.specs.declared.text.parsed.Part.TheVariants as parts
use Rattle.sock_diag_filters.specs.Filters.{meaning}
use Rattle.sock_diag_filters.specs.Postfix.{are_met, optional_meaning, optional_postfix, postfix}
use Rattle.sock_diag_filters.specs.Postfix.{last_verdict, with_part}
use Rattle.sock_diag_filters.specs.Programs.{IsProgram}
use Rattle.sock_diag_filters.specs.Run.{Runs}
use Rattle.sock_diag_filters.specs.SocketFacts.{are_known, facts_meet, is_known, socket_of}
use Rattle.sock_diag_filters.specs.Sockets.{kernel_evaluates, meets}

-- The verdicts after the parts of two filters and an operator.
both_verdicts : (met : Condition → Bool) (vs us ws : List Bool) (first second : List Part)
    (operator : Part) → fold (with_part met) vs first ≡ us → fold (with_part met) us second ≡ ws
    → fold (with_part met) vs (first ++ (second ++ operator ∷ [])) ≡ with_part met ws operator
both_verdicts met vs us ws first second operator h k =
    fold-append (with_part met) vs first (second ++ operator ∷ [])
    ∙ (ap (λ (s : List Bool). fold (with_part met) s (second ++ operator ∷ [])) h
    ∙ (fold-append (with_part met) us second (operator ∷ [])
    ∙ ap (λ (s : List Bool). with_part met s operator) k))

verdict_of : (met : Condition → Bool) (vs : List Bool) (filter : Filter)
    → fold (with_part met) vs (postfix filter) ≡ meaning met filter ∷ vs
verdict_of met vs (filters.Condition c) = refl
verdict_of met vs (filters.And' p a q b) =
    both_verdicts met vs (meaning met a ∷ vs) (meaning met b ∷ (meaning met a ∷ vs)) (postfix a)
    (postfix b) parts.And (verdict_of met vs a) (verdict_of met (meaning met a ∷ vs) b)
verdict_of met vs (filters.Or' p a q b) =
    both_verdicts met vs (meaning met a ∷ vs) (meaning met b ∷ (meaning met a ∷ vs)) (postfix a)
    (postfix b) parts.Or (verdict_of met vs a) (verdict_of met (meaning met a ∷ vs) b)
verdict_of met vs (filters.Not' p a) =
    fold-append (with_part met) vs (postfix a) (parts.Not ∷ [])
    ∙ ap (λ (s : List Bool). with_part met s parts.Not) (verdict_of met vs a)

filter_met : (met : Condition → Bool) (filter : Filter)
    → are_met met (postfix filter) ≡ meaning met filter
filter_met met filter = ap last_verdict (verdict_of met [] filter)

pub parts_are_met : (met : Condition → Bool) (filter : Option Filter)
    → are_met met (optional_postfix filter) ≡ optional_meaning met filter
parts_are_met met None = refl
parts_are_met met (Some filter) = filter_met met filter

known_is_met : (facts : SocketFacts) (condition : Condition) → IsTrue (is_known facts condition)
    → facts_meet facts condition ≡ meets (socket_of facts) condition
known_is_met facts condition known =
    grind (arith, known)

known_are_met : (facts : SocketFacts) (filter : Filter) → IsTrue (are_known facts filter)
    → meaning (facts_meet facts) filter ≡ meaning (meets (socket_of facts)) filter
known_are_met facts (filters.Condition c) known = known_is_met facts c known
known_are_met facts (filters.And' p a q b) known =
    grind (
      arith,
      known,
      known_are_met facts a (grind (arith, known)),
      known_are_met facts b (grind (arith, known)),
    )
known_are_met facts (filters.Or' p a q b) known =
    grind (
      arith,
      known,
      known_are_met facts a (grind (arith, known)),
      known_are_met facts b (grind (arith, known)),
    )
known_are_met facts (filters.Not' p a) known = ap not (known_are_met facts a known)

pub selects_as_program : (facts : SocketFacts) (filter : Filter) (program : List ℕ)
    → IsTrue (are_known facts filter) → IsProgram filter program
    → Runs (kernel_evaluates (socket_of facts)) program
    (are_met (facts_meet facts) (postfix filter))
selects_as_program facts filter program known is =
    subst (λ (v : Bool). Runs (kernel_evaluates (socket_of facts)) program v)
    (sym (filter_met (facts_meet facts) filter ∙ known_are_met facts filter known))
    (is.selects (socket_of facts))

pub ruleset filter_rules = (parts_are_met, selects_as_program)
