-- Words that are read are a text of a filter, or the beginning of one.
use Rattle.std.proofs.Common.{◌≡◌, ◌∙◌, ℕ, List, [], ◌∷◌, ◌++◌, Option, None, Some, Bool, true}
use Rattle.std.proofs.Common.{false}
use Rattle.std.proofs.Common.{refl, sym, ap, subst, append_assoc, append-nil, arith, IsTrue}
use Rattle.std.specs.Prelude.{⊤, option_and_then, option_map, if◌then◌else◌, unwrap_or}
use Rattle.std.specs.Prelude.{bit_and, bit_or, bit_xor}
use Rattle.sock_diag_filters.specs.declared.text.states.TheConstants.{ALL}
use Rattle.sock_diag_filters.specs.States.{states_named}
use Rattle.std.specs.Borrow.{Bor}
use Rattle.sock_diag_filters.specs.declared.condition.Condition.{Condition}
use Rattle.sock_diag_filters.specs.declared.condition.Condition.TheVariants.{AutoBound}
use Rattle.sock_diag_filters.specs.declared.filter.Filter.{Filter}
use Rattle.sock_diag_filters.specs.declared.filter.Filter.TheVariants as filters
use Rattle.sock_diag_filters.specs.declared.text.keywords.Field.{Field}
use Rattle.sock_diag_filters.specs.declared.text.keywords.Keyword.{Keyword}
use Rattle.sock_diag_filters.specs.declared.text.keywords.Keyword.TheVariants as keywords
use Rattle.sock_diag_filters.specs.declared.text.keywords.Operator.{Operator}
use Rattle.sock_diag_filters.specs.declared.text.keywords.Operator.TheVariants.{Equal}
use Rattle.sock_diag_filters.specs.declared.text.parsed.Part.{Part}
use Rattle.sock_diag_filters.specs.declared.text.parsed.Part.TheVariants as parts
use Rattle.sock_diag_filters.specs.declared.text.reader.Pending.{Pending}
use Rattle.sock_diag_filters.specs.declared.text.reader.Pending.TheVariants as pending
use Rattle.sock_diag_filters.specs.declared.text.reader.Place.{Place}
use Rattle.sock_diag_filters.specs.declared.text.reader.Place.TheVariants as places
use Rattle.sock_diag_filters.specs.Grammar.{AreStates, Is, IsText, adjacent}
use Rattle.sock_diag_filters.specs.Grammar.{automatic, both}
use Rattle.sock_diag_filters.specs.Grammar.{chain, compared, comparison, either, equality, group}
use Rattle.sock_diag_filters.specs.Grammar.{added, negation, only, operand, removed, unnamed}
use Rattle.sock_diag_filters.specs.Grammar.{IsFilterText, with, without}
use Rattle.sock_diag_filters.specs.Keywords.{comparison_of, is_negated, keyword_named, takes}
use Rattle.sock_diag_filters.specs.Parsed.{IsParsed}
use Rattle.sock_diag_filters.specs.Postfix.{postfix}
use Rattle.sock_diag_filters.specs.Reading.{State, after_field, after_operand, after_operator}
use Rattle.sock_diag_filters.specs.Reading.{after_start, begun, closed}
use Rattle.sock_diag_filters.specs.Reading.{next, next_at, parts_after, pending_after, reading}
use Rattle.sock_diag_filters.specs.Reading.{initial, is_complete, with_condition}
use Rattle.sock_diag_filters.specs.Reading.{with_states}
use Rattle.sock_diag_filters.specs.Values.{condition_in}
use Rattle.sock_diag_filters.proofs.ReadingTexts.{IsBase, Words, condition_done}
use Rattle.sock_diag_filters.proofs.ReadingTexts.{state}

-- The argument that belongs to a reference of a filter.
unused : Bor ⊤
unused = record { ref_ptr = (0, 0); now = tt }

-- `Waits st words pending parts`: after the words an operand is expected. They have named these
-- states, these operators and groups wait for the operand, and these parts are complete.
pub data Waits (st : Option ℕ) : Words → List Pending → List Part → Type 0 where
  at_first : (words : Words) → AreStates words st → Waits st words [] []
  in_group : (words : Words) (word : List ℕ) (p : List Pending) (out : List Part)
      → Waits st words p out → Is keywords.Open word
      → Waits st (words ++ word ∷ []) (pending.Group ∷ p) out
  in_negation : (words : Words) (word : List ℕ) (p : List Pending) (out : List Part)
      → Waits st words p out → Is keywords.Not word
      → Waits st (words ++ word ∷ []) (pending.Not ∷ p) out
  conjoined : (words more : Words) (word : List ℕ) (p : List Pending) (out : List Part)
      (filter : Filter) → Waits st words p out → IsBase p → IsText chain more filter
      → Is keywords.And word
      → Waits st (words ++ (more ++ word ∷ [])) (pending.And ∷ p) (out ++ postfix filter)
  joined : (words more : Words) (p : List Pending) (out : List Part) (filter : Filter)
      → Waits st words p out → IsBase p → IsText chain more filter
      → Waits st (words ++ more) (pending.And ∷ p) (out ++ postfix filter)
  disjoined : (words more : Words) (word : List ℕ) (p : List Pending) (out : List Part)
      (filter : Filter) → Waits st words p out → IsBase p → IsText chain more filter
      → Is keywords.Or word
      → Waits st (words ++ (more ++ word ∷ [])) (pending.Or ∷ p) (out ++ postfix filter)

-- Words after which an operand is complete.
pub record Follows (st : Option ℕ) (words : Words) (p : List Pending)
    (out : List Part) : Type 0 where
  pub before : Words
  pub more : Words
  pub parts : List Part
  pub filter : Filter
  pub same : words ≡ before ++ more
  pub waits : Waits st before p parts
  pub base : IsBase p
  pub text : IsText chain more filter
  pub complete : out ≡ parts ++ postfix filter

-- The parts after the second operand of an operator.
moved : (out first second : List Part) (part : Part) (p : List Pending) → IsBase p
    → ((out ++ first) ++ second) ++ part ∷ parts_after p ≡ out ++ (first ++ (second ++ part ∷ []))
moved out first second part p base =
    ap (λ (l : List Part). ((out ++ first) ++ second) ++ part ∷ l) base.none
    ∙ (append_assoc (out ++ first) second (part ∷ [])
    ∙ append_assoc out first (second ++ part ∷ []))

-- A chain that its last operand has completed.
combined : (st : Option ℕ) (words : Words) (p : List Pending) (out : List Part) → Waits st words p
    out
    → IsBase p → (more : Words) (filter : Filter) → IsText chain more filter → (all : Words)
    → all ≡ words ++ more → (parts : List Part) → parts ≡ out ++ postfix filter
    → Follows st all (pending_after p) parts
combined st words p out h base more filter text all same parts complete =
    subst (λ (q : List Pending). Follows st all q parts) (sym base.same) record {
      before = words;
      more = more;
      parts = out;
      filter = filter;
      same = same;
      waits = h;
      base = base;
      text = text;
      complete = complete;
    }

-- After an operand, it completes what waits for it.
pub completes : (st : Option ℕ) (words : Words) (p : List Pending) (out : List Part)
    → Waits st words p out → (more : Words) (filter : Filter) → IsText operand more filter
    → Follows st (words ++ more) (pending_after p) ((out ++ postfix filter) ++ parts_after p)
completes st _ _ _ (at_first words h) more filter text = record {
  before = words;
  more = more;
  parts = [];
  filter = filter;
  same = refl;
  waits = at_first words h;
  base = record { same = refl; none = refl };
  text = only more filter text;
  complete = append-nil (postfix filter);
}
completes st _ _ _ (in_group words word p out h is) more filter text = record {
  before = words ++ word ∷ [];
  more = more;
  parts = out;
  filter = filter;
  same = refl;
  waits = in_group words word p out h is;
  base = record { same = refl; none = refl };
  text = only more filter text;
  complete = append-nil (out ++ postfix filter);
}
completes st _ _ _ (in_negation words word p out h is) more filter text =
    let inner = completes st words p out h (word ∷ more) (filters.Not' unused filter)
    (negation unused word more filter is text) in
    subst (λ (w : Words). Follows st w (pending_after p) ((out ++ postfix filter) ++ parts.Not ∷
    parts_after p))
    (sym (append_assoc words (word ∷ []) more))
    (subst (λ (l : List Part). Follows st (words ++ word ∷ more) (pending_after p) l)
    (ap (λ (l : List Part). l ++ parts_after p) (sym (append_assoc out (postfix filter) (parts.Not ∷
    [])))
    ∙ append_assoc (out ++ postfix filter) (parts.Not ∷ []) (parts_after p)) inner)
completes st _ _ _ (conjoined words before word p out f h base prior is) more filter text =
    combined st words p out h base (before ++ word ∷ more) (filters.And' unused f unused filter)
    (both unused unused before more word f filter prior is text)
    ((words ++ (before ++ word ∷ [])) ++ more)
    (append_assoc words (before ++ word ∷ []) more ∙ ap (λ (w : Words). words ++ w) (append_assoc
    before (word ∷ []) more))
    (((out ++ postfix f) ++ postfix filter) ++ parts.And ∷ parts_after p)
    (moved out (postfix f) (postfix filter) parts.And p base)
completes st _ _ _ (joined words before p out f h base prior) more filter text =
    combined st words p out h base (before ++ more) (filters.And' unused f unused filter)
    (adjacent unused unused before more f filter prior text)
    ((words ++ before) ++ more)
    (append_assoc words before more)
    (((out ++ postfix f) ++ postfix filter) ++ parts.And ∷ parts_after p)
    (moved out (postfix f) (postfix filter) parts.And p base)
completes st _ _ _ (disjoined words before word p out f h base prior is) more filter text =
    combined st words p out h base (before ++ word ∷ more) (filters.Or' unused f unused filter)
    (either unused unused before more word f filter prior is text)
    ((words ++ (before ++ word ∷ [])) ++ more)
    (append_assoc words (before ++ word ∷ []) more ∙ ap (λ (w : Words). words ++ w) (append_assoc
    before (word ∷ []) more))
    (((out ++ postfix f) ++ postfix filter) ++ parts.Or ∷ parts_after p)
    (moved out (postfix f) (postfix filter) parts.Or p base)

-- What is known after words, by the place.
pub record IsNamed (keyword : Keyword) (st : Option ℕ) (words : Words) : Type 0 where
  pub before : Words
  pub word : List ℕ
  pub same : words ≡ before ++ word ∷ []
  pub states : AreStates before st
  pub is : Is keyword word

pub record IsField (field : Field) (st : Option ℕ) (words : Words) (p : List Pending)
    (out : List Part) : Type 0 where
  pub before : Words
  pub word : List ℕ
  pub same : words ≡ before ++ word ∷ []
  pub waits : Waits st before p out
  pub is : Is (keywords.Field field) word

pub record IsValue (field : Field) (operator : Operator) (st : Option ℕ) (words : Words)
    (p : List Pending) (out : List Part) : Type 0 where
  pub before : Words
  pub word : List ℕ
  pub sign : List ℕ
  pub same : words ≡ before ++ word ∷ sign ∷ []
  pub waits : Waits st before p out
  pub is : Is (keywords.Field field) word
  pub is_sign : Is (keywords.Operator operator) sign
  pub taken : IsTrue (takes field operator)

-- `Reached words state`: the words lead to the state.
abbrev pub ReachedAt : Place → Words → State → Type 0
ReachedAt places.Start words s = AreStates words s.states × (s.pending ≡ []) × (s.parts ≡ [])
ReachedAt places.Added words s =
    IsNamed keywords.State s.states words × (s.pending ≡ []) × (s.parts ≡ [])
ReachedAt places.Removed words s =
    IsNamed keywords.Exclude s.states words × (s.pending ≡ []) × (s.parts ≡ [])
ReachedAt places.Operand words s = Waits s.states words s.pending s.parts
ReachedAt (places.Field field) words s = IsField field s.states words s.pending s.parts
ReachedAt (places.Value field operator) words s =
    IsValue field operator s.states words s.pending s.parts
ReachedAt places.Operator words s = Follows s.states words s.pending s.parts

abbrev pub Reached : Words → State → Type 0
Reached words s = ReachedAt s.place words s

-- ---- one more word

-- The value of an optional state that is known.
known : (s t : State) → Some s ≡ Some t → s ≡ t
known s t h = ap (λ o. unwrap_or o s) h

reached_known : (words : Words) (s t : State) → Some s ≡ Some t → Reached words s → Reached words t
reached_known words s t h r = subst (Reached words) (known s t h) r

-- After the first keyword of an operand.
begun_reached : (k : Keyword) (place : Place) (st : Option ℕ) (p : List Pending) (out : List Part)
    (words : Words) (word : List ℕ) (t : State) → Is k word → Waits st words p out
    → begun (state place st p out) k ≡ Some t → Reached (words ++ word ∷ []) t
begun_reached keywords.Open place st p out words word t is w h =
    reached_known (words ++ word ∷ []) _ t h (in_group words word p out w is)
begun_reached keywords.Not place st p out words word t is w h =
    reached_known (words ++ word ∷ []) _ t h (in_negation words word p out w is)
begun_reached (keywords.Field field) place st p out words word t is w h =
    reached_known (words ++ word ∷ []) (state (places.Field field) st p out) t h
    record { before = words; word = word; same = refl; waits = w; is = is }
begun_reached keywords.AutoBound place st p out words word t is w h =
    reached_known (words ++ word ∷ []) _ t h
    (completes st words p out w (word ∷ []) (filters.Condition AutoBound) (automatic word is))
begun_reached k place st p out words word t is w h = absurd (cc)

-- After a keyword where `state` and `exclude` may be.
start_reached : (k : Keyword) (st : Option ℕ) (words : Words) (word : List ℕ) (t : State)
    → Is k word → AreStates words st → after_start (state places.Start st [] []) k ≡ Some t
    → Reached (words ++ word ∷ []) t
start_reached keywords.State st words word t is a h =
    reached_known (words ++ word ∷ []) (state places.Added st [] []) t h
    (record { before = words; word = word; same = refl; states = a; is = is }, refl, refl)
start_reached keywords.Exclude st words word t is a h =
    reached_known (words ++ word ∷ []) (state places.Removed st [] []) t h
    (record { before = words; word = word; same = refl; states = a; is = is }, refl, refl)
start_reached keywords.Open st words word t is a h =
    begun_reached keywords.Open places.Start st [] [] words word t is (at_first words a) h
start_reached keywords.Not st words word t is a h =
    begun_reached keywords.Not places.Start st [] [] words word t is (at_first words a) h
start_reached (keywords.Field field) st words word t is a h =
    begun_reached (keywords.Field field) places.Start st [] [] words word t is (at_first words a) h
start_reached keywords.AutoBound st words word t is a h =
    begun_reached keywords.AutoBound places.Start st [] [] words word t is (at_first words a) h
start_reached k st words word t is a h = absurd (cc)

-- After an operand, an operator or another operand follows.
conjoins : (st : Option ℕ) (words : Words) (p : List Pending) (out : List Part) (word : List ℕ)
    → Follows st words p out → Is keywords.And word
    → Waits st (words ++ word ∷ []) (pending.And ∷ p) out
conjoins st words p out word f is =
    subst (λ (l : List Part). Waits st (words ++ word ∷ []) (pending.And ∷ p) l) (sym f.complete)
    (subst (λ (w : Words). Waits st w (pending.And ∷ p) (f.parts ++ postfix f.filter))
    (sym (ap (λ (w : Words). w ++ word ∷ []) f.same ∙ append_assoc f.before f.more (word ∷ [])))
    (conjoined f.before f.more word p f.parts f.filter f.waits f.base f.text is))

disjoins : (st : Option ℕ) (words : Words) (p : List Pending) (out : List Part) (word : List ℕ)
    → Follows st words p out → Is keywords.Or word
    → Waits st (words ++ word ∷ []) (pending.Or ∷ p) out
disjoins st words p out word f is =
    subst (λ (l : List Part). Waits st (words ++ word ∷ []) (pending.Or ∷ p) l) (sym f.complete)
    (subst (λ (w : Words). Waits st w (pending.Or ∷ p) (f.parts ++ postfix f.filter))
    (sym (ap (λ (w : Words). w ++ word ∷ []) f.same ∙ append_assoc f.before f.more (word ∷ [])))
    (disjoined f.before f.more word p f.parts f.filter f.waits f.base f.text is))

joins : (st : Option ℕ) (words : Words) (p : List Pending) (out : List Part)
    → Follows st words p out → Waits st words (pending.And ∷ p) out
joins st words p out f =
    subst (λ (l : List Part). Waits st words (pending.And ∷ p) l) (sym f.complete)
    (subst (λ (w : Words). Waits st w (pending.And ∷ p) (f.parts ++ postfix f.filter)) (sym f.same)
    (joined f.before f.more p f.parts f.filter f.waits f.base f.text))

-- The words before a group, and its first word.
record GroupBefore (st : Option ℕ) (words : Words) (outer : List Pending) (out : List Part) : Type 0
  where
    before : Words
    word : List ℕ
    same : words ≡ before ++ word ∷ []
    waits : Waits st before outer out
    is : Is keywords.Open word

tail_of : List Pending → List Pending
tail_of [] = []
tail_of (x ∷ xs) = xs

group_before : (st : Option ℕ) (words : Words) (p outer : List Pending) (out : List Part)
    → Waits st words p out → p ≡ pending.Group ∷ outer → GroupBefore st words outer out
unfolding tail_of
group_before st _ _ outer _ (at_first words h) same = absurd (cc)
group_before st _ _ outer _ (in_group words word p out h is) same = record {
  before = words;
  word = word;
  same = refl;
  waits = subst (λ (q : List Pending). Waits st words q out) (ap tail_of same) h;
  is = is;
}
group_before st _ _ outer _ (in_negation words word p out h is) same = absurd (cc)
group_before st _ _ outer _ (conjoined words before word p out f h base prior is) same = absurd (cc)
group_before st _ _ outer _ (joined words before p out f h base prior) same = absurd (cc)
group_before st _ _ outer _ (disjoined words before word p out f h base prior is) same =
    absurd (cc)

closes : (st : Option ℕ) (words : Words) (outer : List Pending) (out : List Part) (word : List ℕ)
    → Follows st words (pending.Group ∷ outer) out → Is keywords.Close word
    → Follows st (words ++ word ∷ []) (pending_after outer) (out ++ parts_after outer)
closes st words outer out word f is =
    let g = group_before st f.before (pending.Group ∷ outer) outer f.parts f.waits refl in
    let all = completes st g.before outer f.parts g.waits (g.word ∷ (f.more ++ word ∷ [])) f.filter
    (group g.word word f.more f.filter g.is f.text is) in
    let same : words ++ word ∷ [] ≡ g.before ++ g.word ∷ (f.more ++ word ∷ []) =
    ap (λ (w : Words). w ++ word ∷ []) (f.same ∙ (ap (λ (w : Words). w ++ f.more) g.same
    ∙ append_assoc g.before (g.word ∷ []) f.more))
    ∙ append_assoc g.before (g.word ∷ f.more) (word ∷ []) in
    subst (λ (w : Words). Follows st w (pending_after outer) (out ++ parts_after outer)) (sym same)
    (subst (λ (l : List Part). Follows st (g.before ++ g.word ∷ (f.more ++ word ∷ []))
    (pending_after outer) (l ++ parts_after outer))
    (sym f.complete) all)

closed_reached : (st : Option ℕ) (words : Words) (p : List Pending) (out : List Part) (word : List
    ℕ)
    (t : State) → Is keywords.Close word → Follows st words p out
    → closed (state places.Operator st p out) p ≡ Some t → Reached (words ++ word ∷ []) t
closed_reached st words [] out word t is f h = absurd (cc)
closed_reached st words (pending.Group ∷ outer) out word t is f h =
    reached_known (words ++ word ∷ []) _ t h (closes st words outer out word f is)
closed_reached st words (pending.Not ∷ outer) out word t is f h = absurd (cc)
closed_reached st words (pending.And ∷ outer) out word t is f h = absurd (cc)
closed_reached st words (pending.Or ∷ outer) out word t is f h = absurd (cc)

operand_reached : (k : Keyword) (st : Option ℕ) (p : List Pending) (out : List Part) (words : Words)
    (word : List ℕ) (t : State) → Is k word → Follows st words p out
    → after_operand (state places.Operator st p out) k ≡ Some t → Reached (words ++ word ∷ []) t
operand_reached keywords.And st p out words word t is f h =
    reached_known (words ++ word ∷ []) (state places.Operand st (pending.And ∷ p) out) t h
    (conjoins st words p out word f is)
operand_reached keywords.Or st p out words word t is f h =
    reached_known (words ++ word ∷ []) (state places.Operand st (pending.Or ∷ p) out) t h
    (disjoins st words p out word f is)
operand_reached keywords.Close st p out words word t is f h =
    closed_reached st words p out word t is f h
operand_reached k st p out words word t is f h =
    begun_reached k places.Operand st (pending.And ∷ p) out words word t is (joins st words p out f)
    h

-- After the value of a condition.
compared_filter : Bool → Condition → Filter
compared_filter true condition = filters.Not' unused (filters.Condition condition)
compared_filter false condition = filters.Condition condition

is_compared : (negated : Bool) (condition : Condition)
    → compared negated condition (compared_filter negated condition)
unfolding compared_filter
is_compared true condition = (unused, refl)
is_compared false condition = refl

condition_reached : (negated : Bool) (condition : Condition) (place : Place) (st : Option ℕ)
    (p : List Pending) (out : List Part) (before more words : Words) → words ≡ before ++ more
    → Waits st before p out → IsText operand more (compared_filter negated condition)
    → Reached words (with_condition negated condition (state place st p out))
condition_reached negated condition place st p out before more words same w text =
    subst (Reached words)
    (sym (condition_done negated condition (compared_filter negated condition) place st p out
    (is_compared negated condition)))
    (subst (λ (x : Words). Follows st x (pending_after p) ((out ++ postfix (compared_filter negated
    condition)) ++ parts_after p))
    (sym same) (completes st before p out w more (compared_filter negated condition) text))

takes_equal : (field : Field) → IsTrue (takes field Equal)
takes_equal field = grind arith

equality_reached : (field : Field) (st : Option ℕ) (p : List Pending) (out : List Part) (words :
    Words)
    (value : List ℕ) (t : State) (o : Option Condition) → IsField field st words p out
    → keyword_named value ≡ None → condition_in field (comparison_of Equal) value ≡ o
    → option_map (λ c. with_condition (is_negated Equal) c (state (places.Field field) st p out)) o
    ≡ Some t → Reached (words ++ value ∷ []) t
unfolding compared_filter
equality_reached field st p out words value t None f none is h = absurd (cc)
equality_reached field st p out words value t (Some condition) f none is h =
    reached_known (words ++ value ∷ []) _ t h
    (condition_reached false condition (places.Field field) st p out f.before (f.word ∷ value ∷ [])
    (words ++ value ∷ [])
    (ap (λ (w : Words). w ++ value ∷ []) f.same ∙ append_assoc f.before (f.word ∷ []) (value ∷ []))
    f.waits
    (equality f.word value field condition f.is (none, takes_equal field, is)))

comparison_reached : (field : Field) (operator : Operator) (st : Option ℕ) (p : List Pending)
    (out : List Part) (words : Words) (value : List ℕ) (t : State) (o : Option Condition)
    → IsValue field operator st words p out
    → keyword_named value ≡ None → condition_in field (comparison_of operator) value ≡ o
    → option_map (λ c. with_condition (is_negated operator) c (state (places.Value field operator)
    st p out)) o
    ≡ Some t → Reached (words ++ value ∷ []) t
comparison_reached field operator st p out words value t None f none is h = absurd (cc)
comparison_reached field operator st p out words value t (Some condition) f none is h =
    reached_known (words ++ value ∷ []) _ t h
    (condition_reached (is_negated operator) condition (places.Value field operator) st p out
    f.before
    (f.word ∷ f.sign ∷ value ∷ []) (words ++ value ∷ [])
    (ap (λ (w : Words). w ++ value ∷ []) f.same
    ∙ append_assoc f.before (f.word ∷ f.sign ∷ []) (value ∷ []))
    f.waits
    (comparison f.word f.sign value field operator condition (compared_filter (is_negated operator)
    condition) f.is f.is_sign
    (none, f.taken, is) (is_compared (is_negated operator) condition)))

-- ---- any words

-- The keyword of a word that can follow.
record KeywordOf (f : Keyword → Option State) (word : List ℕ) (t : State) : Type 0 where
  keyword : Keyword
  is : Is keyword word
  after : f keyword ≡ Some t

keyword_of : (f : Keyword → Option State) (word : List ℕ) (t : State) (o : Option Keyword)
    → keyword_named word ≡ o → option_and_then f o ≡ Some t → KeywordOf f word t
keyword_of f word t None is h = absurd (cc)
keyword_of f word t (Some k) is h = record { keyword = k; is = is; after = h }

named_reached : (st : Option ℕ) (words : Words) (word : List ℕ) (t : State) (o : Option ℕ)
    → IsNamed keywords.State st words → states_named word ≡ o
    → option_map (λ n. with_states (bit_or (unwrap_or st 0) n) (state places.Added st [] [])) o ≡
    Some t
    → Reached (words ++ word ∷ []) t
named_reached st words word t None f is h = absurd (cc)
named_reached st words word t (Some n) f is h =
    reached_known (words ++ word ∷ []) (state places.Start (Some (bit_or (unwrap_or st 0) n)) [] [])
    t h (
      subst (λ (w : Words). AreStates w (Some (bit_or (unwrap_or st 0) n)))
          (sym (ap (λ (w : Words). w ++ word ∷ []) f.same ∙ append_assoc f.before (f.word ∷ [])
          (word ∷ [])))
          (added f.before st f.word word n f.states f.is is),
      refl,
      refl,
    )

excluded_reached : (st : Option ℕ) (words : Words) (word : List ℕ) (t : State) (o : Option ℕ)
    → IsNamed keywords.Exclude st words → states_named word ≡ o
    → option_map (λ n. with_states (bit_and (unwrap_or st ALL) (bit_xor n ALL)) (state
    places.Removed st [] [])) o
    ≡ Some t
    → Reached (words ++ word ∷ []) t
excluded_reached st words word t None f is h = absurd (cc)
excluded_reached st words word t (Some n) f is h =
    reached_known (words ++ word ∷ []) (state places.Start (Some (bit_and (unwrap_or st ALL)
    (bit_xor n ALL))) [] []) t h (
      subst (λ (w : Words). AreStates w (Some (bit_and (unwrap_or st ALL) (bit_xor n ALL))))
          (sym (ap (λ (w : Words). w ++ word ∷ []) f.same ∙ append_assoc f.before (f.word ∷ [])
          (word ∷ [])))
          (removed f.before st f.word word n f.states f.is is),
      refl,
      refl,
    )

sign_reached : (field : Field) (operator : Operator) (st : Option ℕ) (p : List Pending) (out : List
    Part)
    (words : Words) (sign : List ℕ) (t : State) (b : Bool) → IsField field st words p out
    → Is (keywords.Operator operator) sign → takes field operator ≡ b
    → (if b then Some (state (places.Value field operator) st p out) else None) ≡ Some t
    → Reached (words ++ sign ∷ []) t
sign_reached field operator st p out words sign t false f is taken h = absurd (cc)
sign_reached field operator st p out words sign t true f is taken h =
    reached_known (words ++ sign ∷ []) (state (places.Value field operator) st p out) t h record {
      before = f.before;
      word = f.word;
      sign = sign;
      same = ap (λ (w : Words). w ++ sign ∷ []) f.same ∙ append_assoc f.before (f.word ∷ []) (sign ∷
          []);
      waits = f.waits;
      is = f.is;
      is_sign = is;
      taken = taken;
    }

field_reached : (field : Field) (st : Option ℕ) (p : List Pending) (out : List Part) (words : Words)
    (word : List ℕ) (t : State) (o : Option Keyword) → IsField field st words p out
    → keyword_named word ≡ o
    → after_field field (state (places.Field field) st p out) word o ≡ Some t
    → Reached (words ++ word ∷ []) t
field_reached field st p out words word t None f is h =
    equality_reached field st p out words word t (condition_in field (comparison_of Equal) word) f
    is refl h
field_reached field st p out words word t (Some (keywords.Operator operator)) f is h =
    sign_reached field operator st p out words word t (takes field operator) f is refl h
field_reached field st p out words word t (Some k) f is h = absurd (cc)

value_reached : (field : Field) (operator : Operator) (st : Option ℕ) (p : List Pending)
    (out : List Part) (words : Words) (word : List ℕ) (t : State) (o : Option Keyword)
    → IsValue field operator st words p out → keyword_named word ≡ o
    → after_operator field operator (state (places.Value field operator) st p out) word o ≡ Some t
    → Reached (words ++ word ∷ []) t
value_reached field operator st p out words word t None f is h =
    comparison_reached field operator st p out words word t
    (condition_in field (comparison_of operator) word) f is refl h
value_reached field operator st p out words word t (Some k) f is h = absurd (cc)

-- States in which no operand has begun have no parts.
at_start : (place : Place) (st : Option ℕ) (p : List Pending) (out : List Part) (word : List ℕ)
    (t : State) → p ≡ [] → out ≡ [] → next_at place (state place st p out) word ≡ Some t
    → next_at place (state place st [] []) word ≡ Some t
at_start place st p out word t none empty h =
    subst (λ (l : List Part). next_at place (state place st [] l) word ≡ Some t) empty
    (subst (λ (q : List Pending). next_at place (state place st q out) word ≡ Some t) none h)

next_reached : (place : Place) (st : Option ℕ) (p : List Pending) (out : List Part) (words : Words)
    (word : List ℕ) (t : State) → ReachedAt place words (state place st p out)
    → next_at place (state place st p out) word ≡ Some t → Reached (words ++ word ∷ []) t
next_reached places.Start st p out words word t r h =
    let k = keyword_of (after_start (state places.Start st [] [])) word t (keyword_named word) refl
    (at_start places.Start st p out word t r.1 r.2 h) in
    start_reached k.keyword st words word t k.is r.0 k.after
next_reached places.Added st p out words word t r h =
    named_reached st words word t (states_named word) r.0 refl (at_start places.Added st p out word
    t r.1 r.2 h)
next_reached places.Removed st p out words word t r h =
    excluded_reached st words word t (states_named word) r.0 refl (at_start places.Removed st p out
    word t r.1 r.2 h)
next_reached places.Operand st p out words word t r h =
    let k = keyword_of (begun (state places.Operand st p out)) word t (keyword_named word) refl h in
    begun_reached k.keyword places.Operand st p out words word t k.is r k.after
next_reached (places.Field field) st p out words word t r h =
    field_reached field st p out words word t (keyword_named word) r refl h
next_reached (places.Value field operator) st p out words word t r h =
    value_reached field operator st p out words word t (keyword_named word) r refl h
next_reached places.Operator st p out words word t r h =
    let k = keyword_of (after_operand (state places.Operator st p out)) word t (keyword_named word)
    refl h in
    operand_reached k.keyword st p out words word t k.is r k.after

later_reached : (words before : Words) (word : List ℕ) (s t : State) (o : Option State)
    → ((u : State) → Reached (before ++ word ∷ []) u → reading u words ≡ Some t
    → Reached ((before ++ word ∷ []) ++ words) t)
    → Reached before s → next s word ≡ o → option_and_then (λ u. reading u words) o ≡ Some t
    → Reached (before ++ word ∷ words) t
later_reached words before word s t None so r is h = absurd (cc)
later_reached words before word s t (Some u) so r is h =
    subst (λ (w : Words). Reached w t) (append_assoc before (word ∷ []) words)
    (so u (next_reached s.place s.states s.pending s.parts before word u r is) h)

-- Words that are read lead to the state.
pub words_reached : (words before : Words) (s t : State) → Reached before s
    → reading s words ≡ Some t → Reached (before ++ words) t
words_reached [] before s t r h =
    subst (λ (w : Words). Reached w t) (sym (append-nil before)) (reached_known before s t h r)
words_reached (word ∷ words) before s t r h =
    later_reached words before word s t (next s word) (λ u. words_reached words (before ++ word ∷
    []) u t)
    r refl h

pub reached : (words : Words) (t : State) → reading initial words ≡ Some t → Reached words t
reached words t h = words_reached words [] initial t (unnamed, refl, refl) h

-- ---- complete texts

no_outer : (st : Option ℕ) (words : Words) (p : List Pending) (out : List Part) → Waits st words p
    out
    → p ≡ [] → AreStates words st × (out ≡ [])
no_outer st _ _ _ (at_first words h) same = (h, refl)
no_outer st _ _ _ (in_group words word p out h is) same = absurd (cc)
no_outer st _ _ _ (in_negation words word p out h is) same = absurd (cc)
no_outer st _ _ _ (conjoined words before word p out f h base prior is) same = absurd (cc)
no_outer st _ _ _ (joined words before p out f h base prior) same = absurd (cc)
no_outer st _ _ _ (disjoined words before word p out f h base prior is) same = absurd (cc)

complete_at : (place : Place) (st : Option ℕ) (p : List Pending) (out : List Part) (words : Words)
    → ReachedAt place words (state place st p out) → is_complete (state place st p out) ≡ true
    → IsParsed words st out
complete_at places.Start st p out words r h =
    record { filter = None; text = without words st r.0; complete = r.2 }
complete_at places.Operator st [] out words r h =
    let outer = no_outer st r.before [] r.parts r.waits refl in record {
      filter = Some r.filter;
      text = subst (λ (w : Words). IsFilterText w st (Some r.filter)) (sym r.same)
          (with r.before r.more st r.filter outer.0 r.text);
      complete = r.complete ∙ ap (λ (l : List Part). l ++ postfix r.filter) outer.1;
    }
complete_at places.Operator st (x ∷ p) out words r h = absurd (cc)
complete_at places.Added st p out words r h = absurd (cc)
complete_at places.Removed st p out words r h = absurd (cc)
complete_at places.Operand st p out words r h = absurd (cc)
complete_at (places.Field field) st p out words r h = absurd (cc)
complete_at (places.Value field operator) st p out words r h = absurd (cc)

-- Words that are read to a complete state are a text of a filter.
pub read_is_text : (words : Words) (t : State) → reading initial words ≡ Some t
    → is_complete t ≡ true → IsParsed words t.states t.parts
read_is_text words t h complete =
    complete_at t.place t.states t.pending t.parts words (reached words t h) complete
