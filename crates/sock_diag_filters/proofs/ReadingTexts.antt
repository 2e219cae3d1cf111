-- A text of a filter is read to its end, and leaves the parts of the filter in postfix order.
use Rattle.std.proofs.Common.{◌≡◌, ◌∙◌, ℕ, List, [], ◌∷◌, ◌++◌, Option, None, Some, Bool, true}
use Rattle.std.proofs.Common.{false}
use Rattle.std.proofs.Common.{refl, sym, ap, append_assoc, append-nil}
use Rattle.std.specs.Prelude.{option_and_then, option_map}
use Rattle.sock_diag_filters.specs.declared.condition.Condition.{Condition}
use Rattle.sock_diag_filters.specs.declared.condition.Condition.TheVariants.{AutoBound}
use Rattle.sock_diag_filters.specs.declared.filter.Filter.{Filter}
use Rattle.sock_diag_filters.specs.declared.text.keywords.Field.{Field}
use Rattle.sock_diag_filters.specs.declared.text.keywords.Keyword.{Keyword}
use Rattle.sock_diag_filters.specs.declared.text.keywords.Keyword.TheVariants as keywords
use Rattle.sock_diag_filters.specs.declared.text.keywords.Operator.{Operator}
use Rattle.sock_diag_filters.specs.declared.text.keywords.Operator.TheVariants.{Equal}
use Rattle.sock_diag_filters.specs.declared.text.parsed.Part.{Part}
use Rattle.sock_diag_filters.specs.declared.text.parsed.Part.TheVariants as parts
use Rattle.sock_diag_filters.specs.declared.text.reader.Pending.{Pending}
use Rattle.sock_diag_filters.specs.declared.text.reader.Pending.TheVariants as pending
use Rattle.sock_diag_filters.specs.declared.text.reader.Place.{Place}
use Rattle.sock_diag_filters.specs.declared.text.reader.Place.TheVariants as places
use Rattle.sock_diag_filters.specs.Grammar.{Form, Is, IsComparison, IsText, adjacent, automatic}
use Rattle.sock_diag_filters.specs.Grammar.{both}
use Rattle.sock_diag_filters.specs.Grammar.{chain, compared, comparison, either, equality, group}
use Rattle.sock_diag_filters.specs.Grammar.{negation, only, operand}
use Rattle.sock_diag_filters.specs.Keywords.{is_negated}
use Rattle.sock_diag_filters.specs.Postfix.{postfix}
use Rattle.sock_diag_filters.specs.Reading.{State, after_operand}
use Rattle.sock_diag_filters.specs.Reading.{after_start, after_value, begun}
use Rattle.sock_diag_filters.specs.Reading.{next, parts_after, pending_after, reading}
use Rattle.sock_diag_filters.specs.Reading.{with_condition, with_pending}

abbrev pub Words : Type 0
Words = List (List ℕ)

abbrev pub state : Place → Option ℕ → List Pending → List Part → State
state place states pending parts =
    record { place = place; states = states; pending = pending; parts = parts }

-- ---- reading words

-- Reading a word and then others.
pub read_word : (s t : State) (word : List ℕ) (later : Words) → next s word ≡ Some t
    → reading s (word ∷ later) ≡ reading t later
read_word s t word later h = ap (λ o. option_and_then (λ u. reading u later) o) h

read_rest : (o : Option State) (t : State) (words later : Words)
    → ((s : State) → reading s words ≡ Some t → reading s (words ++ later) ≡ reading t later)
    → option_and_then (λ u. reading u words) o ≡ Some t
    → option_and_then (λ u. reading u (words ++ later)) o ≡ reading t later
read_rest None t words later so h = absurd (cc)
read_rest (Some s) t words later so h = so s h

-- Reading words and then others.
pub read_words : (s t : State) (words later : Words) → reading s words ≡ Some t
    → reading s (words ++ later) ≡ reading t later
read_words s t [] later h = ap (λ o. option_and_then (λ u. reading u later) o) h
read_words s t (word ∷ words) later h =
    read_rest (next s word) t words later (λ u. read_words u t words later) h

-- ---- the first word of an operand

-- An operand begins with this keyword.
pub data Begins : Keyword → Type 0 where
  opens : Begins keywords.Open
  negates : Begins keywords.Not
  compares : (field : Field) → Begins (keywords.Field field)
  is_automatic : Begins keywords.AutoBound

begins_after_start : (k : Keyword) → Begins k → (s : State) → after_start s k ≡ begun s k
begins_after_start _ opens s = refl
begins_after_start _ negates s = refl
begins_after_start _ (compares field) s = refl
begins_after_start _ is_automatic s = refl

begins_after_operand : (k : Keyword) → Begins k → (s : State)
    → after_operand s k ≡ begun (with_pending pending.And s) k
begins_after_operand _ opens s = refl
begins_after_operand _ negates s = refl
begins_after_operand _ (compares field) s = refl
begins_after_operand _ is_automatic s = refl

-- The first word of words, a keyword with which an operand begins.
pub record FirstWord (words : Words) : Type 0 where
  pub word : List ℕ
  pub later : Words
  pub keyword : Keyword
  pub same : words ≡ word ∷ later
  pub is : Is keyword word
  pub begins : Begins keyword

first_word_before : (words more : Words) → FirstWord words → FirstWord (words ++ more)
first_word_before words more f = record {
  word = f.word;
  later = f.later ++ more;
  keyword = f.keyword;
  same = ap (λ (w : Words). w ++ more) f.same;
  is = f.is;
  begins = f.begins;
}

pub first_word : (form : Form) (words : Words) (filter : Filter) → IsText form words filter
    → FirstWord words
first_word _ _ _ (comparison word sign value field operator condition filter is is_sign h c) =
    record {
      word = word;
      later = sign ∷ value ∷ [];
      keyword = keywords.Field field;
      same = refl;
      is
          = is;
      begins = compares field;
    }
first_word _ _ _ (equality word value field condition is h) =
    record {
      word = word;
      later = value ∷ [];
      keyword = keywords.Field field;
      same = refl;
      is = is;
      begins = compares field;
    }
first_word _ _ _ (automatic word is) =
    record {
      word = word;
      later = [];
      keyword = keywords.AutoBound;
      same = refl;
      is = is;
      begins =
          is_automatic;
    }
first_word _ _ _ (negation p word words filter is h) =
    record {
      word = word;
      later = words;
      keyword = keywords.Not;
      same = refl;
      is = is;
      begins =
          negates;
    }
first_word _ _ _ (group first last words filter is h is_close) =
    record {
      word = first;
      later = words ++ last ∷ [];
      keyword = keywords.Open;
      same = refl;
      is =
          is;
      begins = opens;
    }
first_word _ _ _ (only words filter h) = first_word _ words filter h
first_word _ _ _ (both p q first second word f g h is k) =
    first_word_before first (word ∷ second) (first_word _ first f h)
first_word _ _ _ (adjacent p q first second f g h k) =
    first_word_before first second (first_word _ first f h)
first_word _ _ _ (either p q first second word f g h is k) =
    first_word_before first (word ∷ second) (first_word _ first f h)

begun_anywhere : (k : Keyword) → Begins k → (place : Place) (st : Option ℕ) (p : List Pending) (out
    : List Part)
    → begun (state place st p out) k ≡ begun (state places.Operand st p out) k
begun_anywhere _ opens place st p out = refl
begun_anywhere _ negates place st p out = refl
begun_anywhere _ (compares field) place st p out = refl
begun_anywhere _ is_automatic place st p out = refl

-- Where an operand may begin, a text is read as where one is expected.
pub read_from_start : (words : Words) (st : Option ℕ) (p : List Pending) (out : List Part) →
    FirstWord words
    → reading (state places.Start st p out) words ≡ reading (state places.Operand st p out) words
read_from_start words st p out f =
    rw f.same (ap (λ o. option_and_then (λ u. reading u f.later) o)
    (rw f.is (begins_after_start f.keyword f.begins (state places.Start st p out) ∙ begun_anywhere
    f.keyword f.begins places.Start st p out)))

-- After an operand, a text is read as after `and`.
pub read_adjacent : (words : Words) (st : Option ℕ) (p : List Pending) (out : List Part) → FirstWord
    words
    → reading (state places.Operator st p out) words
    ≡ reading (state places.Operand st (pending.And ∷ p) out) words
read_adjacent words st p out f =
    rw f.same (ap (λ o. option_and_then (λ u. reading u f.later) o)
    (rw f.is (begins_after_operand f.keyword f.begins (state places.Operator st p out))))

-- ---- operands

-- What waits after an operand is complete.
pub record IsBase (p : List Pending) : Type 0 where
  pub same : pending_after p ≡ p
  pub none : parts_after p ≡ []

pub base_after : (p : List Pending) → IsBase (pending_after p)
base_after [] = record { same = refl; none = refl }
base_after (pending.Group ∷ outer) = record { same = refl; none = refl }
base_after (pending.Not ∷ outer) = base_after outer
base_after (pending.And ∷ outer) = base_after outer
base_after (pending.Or ∷ outer) = base_after outer

-- The state after an operand whose parts are these.
abbrev pub done : Option ℕ → List Pending → List Part → State
done st p out = state places.Operator st (pending_after p) (out ++ parts_after p)

done_at_base : (st : Option ℕ) (p : List Pending) (out : List Part) → IsBase p
    → done st p out ≡ state places.Operator st p out
done_at_base st p out base =
    ap (λ (q : List Pending). state places.Operator st q (out ++ parts_after p)) base.same
    ∙ ap (λ (q : List Part). state places.Operator st p q)
    (ap (λ (q : List Part). out ++ q) base.none ∙ append-nil out)

-- The state after a condition.
pub condition_done : (negated : Bool) (condition : Condition) (filter : Filter) (place : Place)
    (st : Option ℕ) (p : List Pending) (out : List Part) → compared negated condition filter
    → with_condition negated condition (state place st p out) ≡ done st p (out ++ postfix filter)
condition_done false condition filter place st p out h = rw h refl
condition_done true condition filter place st p out (q, h) =
    rw h (ap (λ (l : List Part). state places.Operator st (pending_after p) l)
    (append_assoc out (parts.Condition condition ∷ []) (parts.Not ∷ parts_after p)
    ∙ sym (append_assoc out (parts.Condition condition ∷ parts.Not ∷ []) (parts_after p))))

-- The value of a condition is read.
value_read : (field : Field) (operator : Operator) (value : List ℕ) (condition : Condition)
    (s : State) → IsComparison field operator value condition
    → after_value field operator s value
    ≡ Some (with_condition (is_negated operator) condition s)
value_read field operator value condition s h =
    ap (λ o. option_map (λ c. with_condition (is_negated operator) c s) o) h.2

-- The state after the second operand of an operator.
operator_done : (st : Option ℕ) (p : List Pending) (out first second : List Part) (part : Part)
    → IsBase p
    → state places.Operator st (pending_after p)
    (((out ++ first) ++ second) ++ part ∷ parts_after p)
    ≡ state places.Operator st p (out ++ (first ++ (second ++ part ∷ [])))
operator_done st p out first second part base =
    ap (λ (q : List Pending). state places.Operator st q (((out ++ first) ++ second) ++ part ∷
    parts_after p)) base.same
    ∙ ap (λ (l : List Part). state places.Operator st p l)
    (ap (λ (l : List Part). ((out ++ first) ++ second) ++ part ∷ l) base.none
    ∙ (append_assoc (out ++ first) second (part ∷ [])
    ∙ append_assoc out first (second ++ part ∷ [])))

after_close : (st : Option ℕ) (p : List Pending) (out : List Part) (last : List ℕ)
    → Is keywords.Close last
    → next (state places.Operator st (pending.Group ∷ p) out) last ≡ Some (done st p out)
after_close st p out last is = rw is refl

-- How words of a form are read from where an operand is expected. An operand completes what waits
-- for it. A chain is read if nothing but a group waits for it.
abbrev pub ReadsAs : Form → Option ℕ → List Pending → List Part → Words → Words → Filter → Type 0
ReadsAs operand st p out words later filter =
    reading (state places.Operand st p out) (words ++ later)
    ≡ reading (done st p (out ++ postfix filter)) later
ReadsAs chain st p out words later filter = IsBase p
    → reading (state places.Operand st p out) (words ++ later)
    ≡ reading (state places.Operator st p (out ++ postfix filter)) later

-- Reading a text's words.
pub read_text : (form : Form) (words : Words) (filter : Filter) → IsText form words filter
    → (st : Option ℕ) (p : List Pending) (out : List Part) (later : Words)
    → ReadsAs form st p out words later filter
read_text _ _ _ (comparison word sign value field operator condition filter is is_sign h c) st p out
    later =
    read_word (state places.Operand st p out) (state (places.Field field) st p out) word (sign ∷
    value ∷ later) (rw is refl)
    ∙ (read_word (state (places.Field field) st p out) (state (places.Value field operator) st p
    out) sign (value ∷ later)
    (rw (is_sign, h.1) refl)
    ∙ read_word (state (places.Value field operator) st p out) (done st p (out ++ postfix filter))
    value later
    (rw h.0 (value_read field operator value condition (state (places.Value field operator) st p
    out) h
    ∙ ap (λ s. Some s) (condition_done (is_negated operator) condition filter (places.Value field
    operator) st p out c))))
read_text _ _ _ (equality word value field condition is h) st p out later =
    read_word (state places.Operand st p out) (state (places.Field field) st p out) word (value ∷
    later) (rw is refl)
    ∙ read_word (state (places.Field field) st p out) (done st p (out ++ parts.Condition condition ∷
    [])) value later
    (rw h.0 (value_read field Equal value condition (state (places.Field field) st p out) h))
read_text _ _ _ (automatic word is) st p out later =
    read_word (state places.Operand st p out) (done st p (out ++ parts.Condition AutoBound ∷ []))
    word later (rw is refl)
read_text _ _ _ (negation q word words filter is h) st p out later =
    read_word (state places.Operand st p out) (state places.Operand st (pending.Not ∷ p) out) word
    (words ++ later) (rw is refl)
    ∙ (read_text operand words filter h st (pending.Not ∷ p) out later
    ∙ ap (λ (l : List Part). reading (state places.Operator st (pending_after p) l) later)
    (append_assoc out (postfix filter) (parts.Not ∷ parts_after p)
    ∙ (ap (λ (l : List Part). out ++ l) (sym (append_assoc (postfix filter) (parts.Not ∷ [])
    (parts_after p)))
    ∙ sym (append_assoc out (postfix filter ++ parts.Not ∷ []) (parts_after p)))))
read_text _ _ _ (group first last words filter is h is_close) st p out later =
    read_word (state places.Operand st p out) (state places.Operand st (pending.Group ∷ p) out)
    first ((words ++ last ∷ []) ++ later) (rw is refl)
    ∙ (ap (λ (w : Words). reading (state places.Operand st (pending.Group ∷ p) out) w) (append_assoc
    words (last ∷ []) later)
    ∙ (read_text chain words filter h st (pending.Group ∷ p) out (last ∷ later) record {
      same =
          refl;
      none = refl;
    }
    ∙ read_word (state places.Operator st (pending.Group ∷ p) (out ++ postfix filter)) (done st p
    (out ++ postfix filter)) last later
    (after_close st p (out ++ postfix filter) last is_close)))
read_text _ _ _ (only words filter h) st p out later = λ base.
    read_text operand words filter h st p out later
    ∙ ap (λ (s : State). reading s later) (done_at_base st p (out ++ postfix filter) base)
read_text _ _ _ (both q r first second word f g h is k) st p out later = λ base.
    ap (λ (w : Words). reading (state places.Operand st p out) w) (append_assoc first (word ∷
    second) later)
    ∙ (read_text chain first f h st p out (word ∷ (second ++ later)) base
    ∙ (read_word (state places.Operator st p (out ++ postfix f)) (state places.Operand st
    (pending.And ∷ p) (out ++ postfix f)) word (second ++ later) (rw is refl)
    ∙ (read_text operand second g k st (pending.And ∷ p) (out ++ postfix f) later
    ∙ ap (λ (s : State). reading s later) (operator_done st p out (postfix f) (postfix g) parts.And
    base))))
read_text _ _ _ (adjacent q r first second f g h k) st p out later = λ base.
    ap (λ (w : Words). reading (state places.Operand st p out) w) (append_assoc first second later)
    ∙ (read_text chain first f h st p out (second ++ later) base
    ∙ (read_adjacent (second ++ later) st p (out ++ postfix f) (first_word_before second later
    (first_word operand second g k))
    ∙ (read_text operand second g k st (pending.And ∷ p) (out ++ postfix f) later
    ∙ ap (λ (s : State). reading s later) (operator_done st p out (postfix f) (postfix g) parts.And
    base))))
read_text _ _ _ (either q r first second word f g h is k) st p out later = λ base.
    ap (λ (w : Words). reading (state places.Operand st p out) w) (append_assoc first (word ∷
    second) later)
    ∙ (read_text chain first f h st p out (word ∷ (second ++ later)) base
    ∙ (read_word (state places.Operator st p (out ++ postfix f)) (state places.Operand st
    (pending.Or ∷ p) (out ++ postfix f)) word (second ++ later) (rw is refl)
    ∙ (read_text operand second g k st (pending.Or ∷ p) (out ++ postfix f) later
    ∙ ap (λ (s : State). reading s later) (operator_done st p out (postfix f) (postfix g) parts.Or
    base))))
