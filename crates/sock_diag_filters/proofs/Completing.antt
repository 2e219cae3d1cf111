-- The text of a filter is read to a complete state, and from each state that is reached a text can
-- be completed.
use Rattle.std.proofs.Common.{◌≡◌, ◌∙◌, ℕ, List, [], ◌∷◌, ◌++◌, Option, None, Some, Bool, true}
use Rattle.std.proofs.Common.{false}
use Rattle.std.proofs.Common.{refl, sym, ap, subst, append-nil}
use Rattle.std.specs.Prelude.{option_map, unwrap_or, bit_and, bit_or}
use Rattle.std.specs.Prelude.{bit_xor}
use Rattle.sock_diag_filters.specs.declared.condition.Condition.{Condition}
use Rattle.sock_diag_filters.specs.declared.condition.Condition.TheVariants.{AutoBound}
use Rattle.sock_diag_filters.specs.declared.filter.Filter.{Filter}
use Rattle.sock_diag_filters.specs.declared.text.keywords.Field.{Field}
use Rattle.sock_diag_filters.specs.declared.text.keywords.Field.TheVariants as fields
use Rattle.sock_diag_filters.specs.declared.text.keywords.Keyword.TheVariants as keywords
use Rattle.sock_diag_filters.specs.declared.text.keywords.Operator.{Operator}
use Rattle.sock_diag_filters.specs.declared.text.keywords.Operator.TheVariants.{Equal}
use Rattle.sock_diag_filters.specs.declared.text.parsed.Part.{Part}
use Rattle.sock_diag_filters.specs.declared.text.reader.Pending.{Pending}
use Rattle.sock_diag_filters.specs.declared.text.reader.Pending.TheVariants as pending
use Rattle.sock_diag_filters.specs.declared.text.reader.Place.{Place}
use Rattle.sock_diag_filters.specs.declared.text.reader.Place.TheVariants as places
use Rattle.sock_diag_filters.specs.declared.text.states.TheConstants.{ALL}
use Rattle.sock_diag_filters.specs.Grammar.{AreStates, Is, IsFilterText, added, chain, removed}
use Rattle.sock_diag_filters.specs.Grammar.{unnamed, with, without}
use Rattle.sock_diag_filters.specs.Keywords.{comparison_of, is_negated, keyword_named}
use Rattle.sock_diag_filters.specs.Parsed.{CanContinue}
use Rattle.sock_diag_filters.specs.Postfix.{postfix}
use Rattle.sock_diag_filters.specs.Reading.{State, after_value, initial, is_complete, next}
use Rattle.sock_diag_filters.specs.Reading.{parts_after, pending_after, reading, with_condition}
use Rattle.sock_diag_filters.specs.States.{group_named, state_named, states_named}
use Rattle.sock_diag_filters.specs.Values.{condition_in}
use Rattle.sock_diag_filters.proofs.ReadTexts.{ReachedAt, reached, read_is_text}
use Rattle.sock_diag_filters.proofs.ReadingTexts.{Words, done, first_word, read_from_start}
use Rattle.sock_diag_filters.proofs.ReadingTexts.{read_text}
use Rattle.sock_diag_filters.proofs.ReadingTexts.{read_word, read_words, state}

-- ---- texts are complete

states_read : (words : Words) (st : Option ℕ) → AreStates words st
    → reading initial words ≡ Some (state places.Start st [] [])
states_read _ _ unnamed = refl
states_read _ _ (added words st word name n a is named) =
    read_words initial (state places.Start st [] []) words (word ∷ name ∷ []) (states_read words st
    a)
    ∙ (read_word (state places.Start st [] []) (state places.Added st [] []) word (name ∷ []) (rw is
    refl)
    ∙ read_word (state places.Added st [] []) (state places.Start (Some (bit_or (unwrap_or st 0) n))
    [] []) name []
    (rw named refl))
states_read _ _ (removed words st word name n a is named) =
    read_words initial (state places.Start st [] []) words (word ∷ name ∷ []) (states_read words st
    a)
    ∙ (read_word (state places.Start st [] []) (state places.Removed st [] []) word (name ∷ []) (rw
    is refl)
    ∙ read_word (state places.Removed st [] []) (state places.Start (Some (bit_and (unwrap_or st
    ALL) (bit_xor n ALL))) [] []) name []
    (rw named refl))

-- The state after a text.
pub record Completes (words : Words) : Type 0 where
  pub state : State
  pub is_read : reading initial words ≡ Some state
  pub complete : is_complete state ≡ true

pub text_is_complete : (words : Words) (st : Option ℕ) (filter : Option Filter)
    → IsFilterText words st filter → Completes words
text_is_complete _ _ _ (without words st a) =
    record {
      state = state places.Start st [] [];
      is_read = states_read words st a;
      complete = refl;
    }
text_is_complete _ _ _ (with named words st filter a text) = record {
  state = state places.Operator st [] (postfix filter);
  is_read = read_words initial (state places.Start st [] []) named words (states_read named st a)
      ∙ (read_from_start words st [] [] (first_word chain words filter text)
      ∙ (ap (λ (w : Words). reading (state places.Operand st [] []) w) (sym (append-nil words))
      ∙ read_text chain words filter text st [] [] [] record { same = refl; none = refl }));
  complete = refl;
}

-- ---- words that complete a text

close_word : List ℕ
close_word = 41 ∷ []

is_close : Is keywords.Close close_word
unfolding close_word keyword_named
is_close = refl

-- A group is closed by each of these words.
closing : List Pending → Words
closing [] = []
closing (pending.Group ∷ outer) = close_word ∷ closing outer
closing (pending.Not ∷ outer) = closing outer
closing (pending.And ∷ outer) = closing outer
closing (pending.Or ∷ outer) = closing outer

-- Words after which the state is complete.
record Ending (s : State) : Type 0 where
  words : Words
  state : State
  is_read : reading s words ≡ Some state
  complete : is_complete state ≡ true

all_closed : (p : List Pending) (st : Option ℕ) (out : List Part) → Ending (state places.Operator st
    (pending_after p) out)
all_closed [] st out = record {
  words = [];
  state = state places.Operator st [] out;
  is_read = refl;
  complete = refl;
}
all_closed (pending.Group ∷ outer) st out =
    let later = all_closed outer st (out ++ parts_after outer) in record {
      words = close_word ∷ later.words;
      state = later.state;
      is_read = read_word (state places.Operator st (pending.Group ∷ outer) out) (done st outer out)
          close_word
          later.words (rw is_close refl) ∙ later.is_read;
      complete = later.complete;
    }
all_closed (pending.Not ∷ outer) st out = all_closed outer st out
all_closed (pending.And ∷ outer) st out = all_closed outer st out
all_closed (pending.Or ∷ outer) st out = all_closed outer st out

-- One more word before an ending.
one_more : (s t : State) (word : List ℕ) → next s word ≡ Some t → Ending t → Ending s
one_more s t word is later = record {
  words = word ∷ later.words;
  state = later.state;
  is_read = read_word s t word later.words is ∙ later.is_read;
  complete = later.complete;
}

automatic_word : List ℕ
automatic_word = 97 ∷ 117 ∷ 116 ∷ 111 ∷ 98 ∷ 111 ∷ 117 ∷ 110 ∷ 100 ∷ []

is_automatic_word : Is keywords.AutoBound automatic_word
unfolding automatic_word keyword_named
is_automatic_word = refl

all_word : List ℕ
all_word = 97 ∷ 108 ∷ 108 ∷ []

is_all_word : states_named all_word ≡ Some ALL
unfolding all_word state_named group_named
is_all_word = refl

-- A value of each field.
value_of_field : Field → List ℕ
value_of_field fields.Source = 42 ∷ []
value_of_field fields.Destination = 42 ∷ []
value_of_field field = 49 ∷ []

value_is_no_keyword : (field : Field) → keyword_named (value_of_field field) ≡ None
unfolding value_of_field keyword_named
value_is_no_keyword fields.SourcePort = refl
value_is_no_keyword fields.DestinationPort = refl
value_is_no_keyword fields.Source = refl
value_is_no_keyword fields.Destination = refl
value_is_no_keyword fields.Interface = refl
value_is_no_keyword fields.Mark = refl
value_is_no_keyword fields.Cgroup = refl

-- The value is one of the field, however it is compared.
record ConditionOf (field : Field) (operator : Operator) : Type 0 where
  condition : Condition
  is : condition_in field (comparison_of operator) (value_of_field field) ≡ Some condition

value_is_value : (field : Field) (operator : Operator) → ConditionOf field operator
unfolding value_of_field
value_is_value fields.SourcePort operator = record { condition = _; is = refl }
value_is_value fields.DestinationPort operator = record { condition = _; is = refl }
value_is_value fields.Source operator = record { condition = _; is = refl }
value_is_value fields.Destination operator = record { condition = _; is = refl }
value_is_value fields.Interface operator = record { condition = _; is = refl }
value_is_value fields.Mark operator = record { condition = _; is = refl }
value_is_value fields.Cgroup operator = record { condition = _; is = refl }

operator_after_condition : (negated : Bool) (condition : Condition) (st : Option ℕ) (place : Place)
    (p : List Pending) (out : List Part)
    → Ending (with_condition negated condition (state place st p out))
operator_after_condition true condition st place p out = all_closed p st _
operator_after_condition false condition st place p out = all_closed p st _

value_ending : (field : Field) (operator : Operator) (st : Option ℕ) (p : List Pending)
    (out : List Part) (place : Place)
    → next (state place st p out) (value_of_field field)
    ≡ after_value field operator (state place st p out) (value_of_field field)
    → Ending (state place st p out)
value_ending field operator st p out place is =
    let v = value_is_value field operator in
    one_more (state place st p out) (with_condition (is_negated operator) v.condition (state place
    st p out))
    (value_of_field field)
    (is ∙ ap (λ o. option_map (λ c. with_condition (is_negated operator) c (state place st p out))
    o) v.is)
    (operator_after_condition (is_negated operator) v.condition st place p out)

ending_at : (place : Place) (st : Option ℕ) (p : List Pending) (out : List Part) (words : Words)
    → ReachedAt place words (state place st p out) → Ending (state place st p out)
ending_at places.Start st p out words r =
    record { words = []; state = state places.Start st p out; is_read = refl; complete = refl }
ending_at places.Added st p out words r =
    one_more (state places.Added st p out) (state places.Start (Some (bit_or (unwrap_or st 0) ALL))
    p out) all_word
    (rw is_all_word refl)
    record { words = []; state = _; is_read = refl; complete = refl }
ending_at places.Removed st p out words r =
    one_more (state places.Removed st p out) (state places.Start (Some (bit_and (unwrap_or st ALL)
    (bit_xor ALL ALL))) p out) all_word
    (rw is_all_word refl)
    record { words = []; state = _; is_read = refl; complete = refl }
ending_at places.Operand st p out words r =
    one_more (state places.Operand st p out) (with_condition false AutoBound (state places.Operand
    st p out)) automatic_word
    (rw is_automatic_word refl)
    (operator_after_condition false AutoBound st places.Operand p out)
ending_at (places.Field field) st p out words r =
    value_ending field Equal st p out (places.Field field) (rw (value_is_no_keyword field) refl)
ending_at (places.Value field operator) st p out words r =
    value_ending field operator st p out (places.Value field operator) (rw (value_is_no_keyword
    field) refl)
ending_at places.Operator st p out words r =
    subst (λ (q : List Pending). Ending (state places.Operator st q out)) r.base.same (all_closed p
    st out)

pub state_can_continue : (words : Words) (t : State) → reading initial words ≡ Some t
    → CanContinue words
state_can_continue words t h =
    let ending = ending_at t.place t.states t.pending t.parts words (reached words t h) in
    let all = read_is_text (words ++ ending.words) ending.state
    (read_words initial t words ending.words h ∙ ending.is_read) ending.complete in record {
      more = ending.words;
      states = ending.state.states;
      filter = all.filter;
      text = all.text;
    }
