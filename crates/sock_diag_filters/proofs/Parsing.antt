-- What reading the words of a text leads to is a filter with this text, or the first error.
use Rattle.std.proofs.Common.{◌≡◌, ◌∙◌, ℕ, ◌<◌, List, [], ◌∷◌, ◌++◌, Option, None, Some, Bool}
use Rattle.std.proofs.Common.{true, false}
use Rattle.std.proofs.Common.{refl, sym, ap, subst, append_assoc, arith, Result, Ok, Err, inl}
use Rattle.std.proofs.Common.{inr, ◌⊎◌}
use Rattle.std.specs.Result.{result_ok}
use Rattle.std.specs.Prelude.{option_and_then, if◌then◌else◌, nat_lt}
use Rattle.std.proofs.lemmas.Bool.Decides.{nat_tests}
use Rattle.sock_diag_filters.specs.declared.text.parsed.FilterTextError.{FilterTextError}
use Rattle.sock_diag_filters.specs.declared.text.parsed.FilterTextError.TheVariants.{TooLong}
use Rattle.sock_diag_filters.specs.declared.text.parsed.FilterTextError.TheVariants.{Unexpected}
use Rattle.sock_diag_filters.specs.declared.text.parsed.FilterTextError.TheVariants.{Incomplete}
use Rattle.sock_diag_filters.specs.declared.text.parsed.TheConstants.{MAX_PARTS}
use Rattle.sock_diag_filters.specs.Parsed.{CanContinue, IsFilterTextError, IsWordAt, outcome}
use Rattle.sock_diag_filters.specs.Reading.{State, initial, is_complete, next, reading, size}
use Rattle.sock_diag_filters.specs.Words.{placed_words, without_offsets, words_of}
use Rattle.sock_diag_filters.proofs.Completing.{state_can_continue, text_is_complete}
use Rattle.sock_diag_filters.proofs.ReadingTexts.{Words, read_words}

-- The outcome of a word and others, by the state after it.
abbrev outcome_after : Option State → ℕ → List (ℕ × List ℕ) → Result State FilterTextError
outcome_after o offset later = elim o [
  | None ↦ Err (Unexpected offset)
  | Some t ↦ if nat_lt MAX_PARTS (size t) then Err (TooLong offset) else outcome t later
]

read_within : (b : Bool) (u : State) (offset : ℕ) (later : List (ℕ × List ℕ)) (t : State)
    → ((u : State) → outcome u later ≡ Ok t → reading u (without_offsets later) ≡ Some t)
    → (if b then Err (TooLong offset) else outcome u later) ≡ Ok t
    → reading u (without_offsets later) ≡ Some t
read_within true u offset later t so h = absurd (cc)
read_within false u offset later t so h = so u h

-- A state that reading leads to.
read_step : (o : Option State) (offset : ℕ) (later : List (ℕ × List ℕ)) (t : State)
    → ((u : State) → outcome u later ≡ Ok t → reading u (without_offsets later) ≡ Some t)
    → outcome_after o offset later ≡ Ok t
    → option_and_then (λ u. reading u (without_offsets later)) o ≡ Some t
read_step None offset later t so h = absurd (cc)
read_step (Some u) offset later t so h = read_within (nat_lt MAX_PARTS (size u)) u offset later t so
    h

pub outcome_is_read : (s : State) (words : List (ℕ × List ℕ)) (t : State) → outcome s words ≡ Ok t
    → reading s (without_offsets words) ≡ Some t
outcome_is_read s [] t h = ap (λ (r : Result State FilterTextError). result_ok r) h
outcome_is_read s ((offset, word) ∷ later) t h =
    read_step (next s word) offset later t (λ u. outcome_is_read u later t) h

-- The word at which reading fails.
pub record FailsAt (s : State) (words : List (ℕ × List ℕ)) (e : FilterTextError) : Type 0 where
  pub earlier : List (ℕ × List ℕ)
  pub offset : ℕ
  pub word : List ℕ
  pub later : List (ℕ × List ℕ)
  pub split : words ≡ earlier ++ (offset, word) ∷ later
  pub before : State
  pub is_read : reading s (without_offsets earlier) ≡ Some before
  pub reason : ((e ≡ Unexpected offset) × (next before word ≡ None))
      ⊎ ((e ≡ TooLong offset) × (t : State) × (next before word ≡ Some t) × (MAX_PARTS < size t))

fails_later : (s u : State) (offset : ℕ) (word : List ℕ) (later : List (ℕ × List ℕ))
    (e : FilterTextError) → next s word ≡ Some u → FailsAt u later e
    → FailsAt s ((offset, word) ∷ later) e
fails_later s u offset word later e is f = record {
  earlier = (offset, word) ∷ f.earlier;
  offset = f.offset;
  word = f.word;
  later = f.later;
  split = ap (λ (w : List (ℕ × List ℕ)). (offset, word) ∷ w) f.split;
  before = f.before;
  is_read = ap (λ o. option_and_then (λ v. reading v (without_offsets f.earlier)) o) is ∙ f.is_read;
  reason = f.reason;
}

fails_within : (b : Bool) (s u : State) (offset : ℕ) (word : List ℕ) (later : List (ℕ × List ℕ))
    (e : FilterTextError)
    → ((u : State) → outcome u later ≡ Err e → FailsAt u later e)
    → next s word ≡ Some u → nat_lt MAX_PARTS (size u) ≡ b
    → (if b then Err (TooLong offset) else outcome u later) ≡ Err e
    → FailsAt s ((offset, word) ∷ later) e
fails_within true s u offset word later e so is more h = record {
  earlier = [];
  offset = offset;
  word = word;
  later = later;
  split = refl;
  before = s;
  is_read = refl;
  reason = inr (grind arith, u, is, grind (arith, nat_tests));
}
fails_within false s u offset word later e so is more h = fails_later s u offset word later e is (so
    u h)

fails_step : (o : Option State) (s : State) (offset : ℕ) (word : List ℕ) (later : List (ℕ × List ℕ))
    (e : FilterTextError)
    → ((u : State) → outcome u later ≡ Err e → FailsAt u later e)
    → next s word ≡ o → outcome_after o offset later ≡ Err e → FailsAt s ((offset, word) ∷ later) e
fails_step None s offset word later e so is h = record {
  earlier = [];
  offset = offset;
  word = word;
  later = later;
  split = refl;
  before = s;
  is_read = refl;
  reason = inl (grind arith, is);
}
fails_step (Some u) s offset word later e so is h =
    fails_within (nat_lt MAX_PARTS (size u)) s u offset word later e so is refl h

pub outcome_fails : (s : State) (words : List (ℕ × List ℕ)) (e : FilterTextError)
    → outcome s words ≡ Err e → FailsAt s words e
outcome_fails s [] e h = absurd (cc)
outcome_fails s ((offset, word) ∷ later) e h =
    fails_step (next s word) s offset word later e (λ u. outcome_fails u later e) refl h

-- ---- errors

after_word : (s t : State) (words : Words) (word : List ℕ) (more : Words) → reading s words ≡ Some t
    → next t word ≡ None → reading s ((words ++ word ∷ []) ++ more) ≡ None
after_word s t words word more h none =
    ap (λ (w : Words). reading s w) (append_assoc words (word ∷ []) more)
    ∙ (read_words s t words (word ∷ more) h
    ∙ ap (λ o. option_and_then (λ u. reading u more) o) none)

cannot_continue : (words : Words) (word : List ℕ) (t : State) → reading initial words ≡ Some t
    → next t word ≡ None → CanContinue (words ++ word ∷ []) → ⊥
cannot_continue words word t h none can =
    let c = text_is_complete ((words ++ word ∷ []) ++ can.more) can.states can.filter can.text in
    let e = after_word initial t words word can.more h none in
    absurd (cc (c.is_read, e))

word_at : (text : List ℕ) (e : FilterTextError) (f : FailsAt initial (placed_words text) e)
    → IsWordAt text f.offset (without_offsets f.earlier) f.word
word_at text e f = record { earlier = f.earlier; later = f.later; split = f.split; same = refl }

by_reason : (text : List ℕ) (e : FilterTextError) (f : FailsAt initial (placed_words text) e)
    → ((e ≡ Unexpected f.offset) × (next f.before f.word ≡ None))
    ⊎ ((e ≡ TooLong f.offset) × (t : State) × (next f.before f.word ≡ Some t) × (MAX_PARTS < size
    t))
    → IsFilterTextError text e
by_reason text e f (inl (is, none)) =
    subst (IsFilterTextError text) (sym is) (
      without_offsets f.earlier,
      f.word,
      word_at text e f,
      state_can_continue (without_offsets f.earlier) f.before f.is_read,
      cannot_continue (without_offsets f.earlier) f.word f.before f.is_read none,
    )
by_reason text e f (inr (is, t, after, more)) =
    subst (IsFilterTextError text) (sym is) (
      without_offsets f.earlier,
      f.word,
      t,
      word_at text e f,
      read_words initial f.before (without_offsets f.earlier) (f.word ∷ []) f.is_read
          ∙ ap (λ o. option_and_then (λ u. reading u []) o) after,
      more,
    )

pub error_is_first : (text : List ℕ) (e : FilterTextError)
    → outcome initial (placed_words text) ≡ Err e → IsFilterTextError text e
error_is_first text e h =
    let f = outcome_fails initial (placed_words text) e h in by_reason text e f f.reason

pub incomplete_is_error : (text : List ℕ) (t : State)
    → outcome initial (placed_words text) ≡ Ok t → is_complete t ≡ false
    → IsFilterTextError text Incomplete
incomplete_is_error text t h open_end =
    let is_read = outcome_is_read initial (placed_words text) t h in (
      state_can_continue (words_of text) t is_read,
      λ states filter is_text.
          let c = text_is_complete (words_of text) states filter is_text in
          absurd (cc (c.is_read, c.complete, is_read, open_end)),
    )
