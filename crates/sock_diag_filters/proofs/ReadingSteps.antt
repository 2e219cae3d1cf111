-- States of a reader: when nothing is left to complete, and how many parts they have.
use Rattle.std.proofs.Common.{◌≡◌, ◌∙◌, ◌+◌, ◌<◌, ◌≤◌, List, [], ◌∷◌, ◌++◌, None, Some, Bool}
use Rattle.std.proofs.Common.{true, false}
use Rattle.std.proofs.Common.{refl, sym, ap, subst, append-nil, arith, length}
use Rattle.std.proofs.lemmas.List.{length-append}
use Rattle.std.specs.Prelude.{⊤, Result, Err}
use Rattle.sock_diag_filters.specs.Readers.{Follows}
use Rattle.sock_diag_filters.specs.declared.condition.Condition.{Condition}
use Rattle.sock_diag_filters.specs.declared.text.parsed.TheConstants.{MAX_PARTS}
use Rattle.sock_diag_filters.specs.declared.text.reader.Problem.{Problem}
use Rattle.sock_diag_filters.specs.declared.text.reader.Problem.TheVariants.{TooLong, Unexpected}
use Rattle.sock_diag_filters.specs.declared.text.reader.Reader.{Reader}
use Rattle.sock_diag_filters.specs.declared.text.parsed.Part.{Part}
use Rattle.sock_diag_filters.specs.declared.text.parsed.Part.TheVariants as parts
use Rattle.sock_diag_filters.specs.declared.text.reader.Pending.{Pending}
use Rattle.sock_diag_filters.specs.declared.text.reader.Pending.TheVariants as pending
use Rattle.sock_diag_filters.specs.declared.text.reader.Place.TheVariants as places
use Rattle.sock_diag_filters.specs.Reading.{State, completed, operator_of, parts_after}
use Rattle.sock_diag_filters.specs.Reading.{pending_after, size, with_condition}
use Rattle.sock_diag_filters.specs.Reading.{at, begun, with_pending}
use Rattle.sock_diag_filters.specs.Keywords.{begins_operand}
use Rattle.sock_diag_filters.specs.declared.condition.Condition.TheVariants.{AutoBound}
use Rattle.sock_diag_filters.specs.declared.text.keywords.Keyword.{Keyword}
use Rattle.sock_diag_filters.specs.declared.text.keywords.Keyword.TheVariants as keywords

-- Operators that are completed are as many as the parts that they become.
size_after : (p : List Pending) → length (pending_after p) + length (parts_after p) ≡ length p
size_after [] = refl
size_after (pending.Group ∷ outer) = omega arith
size_after (pending.Not ∷ outer) = let h = size_after outer in omega (arith, h)
size_after (pending.And ∷ outer) = let h = size_after outer in omega (arith, h)
size_after (pending.Or ∷ outer) = let h = size_after outer in omega (arith, h)

-- The number of parts after a condition.
pub size_with_condition : (negated : Bool) (condition : Condition) (s : State)
    → size s + 1 ≤ size (with_condition negated condition s)
size_with_condition false condition s =
    omega (
      arith,
      size_after s.pending,
      length-append (s.parts ++ parts.Condition condition ∷ [])
          (parts_after s.pending),
      length-append s.parts (parts.Condition condition ∷ []),
    )
size_with_condition true condition s =
    omega (
      arith,
      size_after s.pending,
      length-append (s.parts ++ parts.Condition condition ∷ [])
          (parts.Not ∷ parts_after s.pending),
      length-append s.parts (parts.Condition condition ∷ []),
    )

pub size_with_negated_condition : (condition : Condition) (s : State)
    → size (with_condition true condition s) ≡ size s + 2
size_with_negated_condition condition s =
    omega (
      arith,
      size_after s.pending,
      length-append (s.parts ++ parts.Condition condition ∷ [])
          (parts.Not ∷ parts_after s.pending),
      length-append s.parts (parts.Condition condition ∷ []),
    )

pub size_with_plain_condition : (condition : Condition) (s : State)
    → size (with_condition false condition s) ≡ size s + 1
size_with_plain_condition condition s =
    omega (
      arith,
      size_after s.pending,
      length-append (s.parts ++ parts.Condition condition ∷ [])
          (parts_after s.pending),
      length-append s.parts (parts.Condition condition ∷ []),
    )

none_after : (p : List Pending) → operator_of p ≡ None → (p ≡ pending_after p) × ([] ≡ parts_after
    p)
none_after [] h = (refl, refl)
none_after (pending.Group ∷ outer) h = (refl, refl)
none_after (pending.Not ∷ outer) h = absurd (cc)
none_after (pending.And ∷ outer) h = absurd (cc)
none_after (pending.Or ∷ outer) h = absurd (cc)

-- An operator has fewer parts than a condition.
pub pending_is_shorter : (operator : Pending) (negated : Bool) (condition : Condition) (s : State)
    → size (with_pending operator s) ≤ size (with_condition negated condition s)
pending_is_shorter operator negated condition s =
    omega (arith, size_with_condition negated condition s)

-- Nothing is left to complete.
pub completed_if_none : (s : State) → s.place ≡ places.Operator → operator_of s.pending ≡ None
    → s ≡ completed s
completed_if_none s place none =
    let same = none_after s.pending none in
    let kept : s.parts ≡ s.parts ++ parts_after s.pending =
    sym (append-nil s.parts) ∙ ap (λ (l : List Part). s.parts ++ l) same.1 in
    λ i. record { place = place i; states = s.states; pending = same.0 i; parts = kept i }

-- If a state has too many parts, one with more parts has too.
pub too_long_follows : (s t : State) (e : Problem) (r q : Reader) (result : Result ⊤ Problem)
    → Follows (Some s) (Err e) r → size s ≤ size t → result ≡ Err e → Follows (Some t) result q
too_long_follows s t TooLong r q result h more is =
    subst (λ (o : Result ⊤ Problem). Follows (Some t) o q) (sym is) (let k : MAX_PARTS < size s = h
    in omega arith)
too_long_follows s t Unexpected r q result h more is = absurd h

-- If a state has too many parts, it has after the first keyword of an operand.
pub begun_too_long : (k : Keyword) (s : State) (e : Problem) (r q : Reader)
    (result : Result ⊤ Problem) → begins_operand k ≡ true → Follows (Some s) (Err e) r
    → result ≡ Err e → Follows (begun s k) result q
begun_too_long keywords.Open s e r q result b h is =
    too_long_follows s (with_pending pending.Group s) e r q result h (omega arith) is
begun_too_long keywords.Not s e r q result b h is =
    too_long_follows s (with_pending pending.Not s) e r q result h (omega arith) is
begun_too_long (keywords.Field field) s e r q result b h is =
    too_long_follows s (at (places.Field field) s) e r q result h (omega arith) is
begun_too_long keywords.AutoBound s e r q result b h is =
    too_long_follows s (with_condition false AutoBound s) e r q result h
    (omega (arith, size_with_condition false AutoBound s)) is
begun_too_long k s e r q result b h is = absurd (cc)
