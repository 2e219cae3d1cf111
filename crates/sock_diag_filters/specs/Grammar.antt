-- The grammar of a filter's text, which is that of ss(8) (`ssfilter.y` of iproute2), without the
-- names of hosts, services, interfaces and control groups, families before an address, addresses in
-- fewer than four numbers, numbers in octal, and backslashes. A word is a list of bytes.
use Rattle.std.specs.Prelude.{◌≡◌, ℕ, ⊤, List, [], ◌∷◌, ◌++◌, Option, None, Some, bit_or, bit_and}
use Rattle.std.specs.Prelude.{Bool, true, false, unwrap_or, bit_xor, IsTrue}
use Rattle.std.specs.Borrow.{Bor}
use Rattle.sock_diag_filters.specs.declared.condition.Condition.{Condition}
use Rattle.sock_diag_filters.specs.declared.condition.Condition.TheVariants.{AutoBound}
use Rattle.sock_diag_filters.specs.declared.filter.Filter.{Filter}
use Rattle.sock_diag_filters.specs.declared.filter.Filter.TheVariants as filters
use Rattle.sock_diag_filters.specs.declared.text.keywords.Field.{Field}
use Rattle.sock_diag_filters.specs.declared.text.keywords.Keyword.{Keyword}
use Rattle.sock_diag_filters.specs.declared.text.keywords.Keyword.TheVariants as keywords
use Rattle.sock_diag_filters.specs.declared.text.keywords.Operator.{Operator}
use Rattle.sock_diag_filters.specs.declared.text.keywords.Operator.TheVariants.{Equal}
use Rattle.sock_diag_filters.specs.declared.text.states.TheConstants.{ALL}
use Rattle.sock_diag_filters.specs.Keywords.{comparison_of, is_negated, keyword_named, takes}
use Rattle.sock_diag_filters.specs.States.{states_named}
use Rattle.sock_diag_filters.specs.Values.{condition_in}

-- `Is keyword word`: the word is this keyword.
abbrev pub Is : Keyword → List ℕ → Type 0
Is keyword word = keyword_named word ≡ Some keyword

-- `IsComparison field operator value condition`: the value is a word that is not a keyword, and
-- with the comparison of the operator the condition on the field is `condition`.
abbrev pub IsComparison : Field → Operator → List ℕ → Condition → Type 0
IsComparison field operator value condition =
    (keyword_named value ≡ None)
    × (IsTrue (takes field operator))
    × (condition_in field (comparison_of operator) value ≡ Some condition)

-- `compared negated condition filter`: the filter is the condition, or its opposite if `negated`.
abbrev pub compared : Bool → Condition → Filter → Type 0
compared false condition filter = filter ≡ filters.Condition condition
compared true condition filter =
    (p : Bor ⊤) × (filter ≡ filters.Not' p (filters.Condition condition))

-- Whether words are one operand, or operands with operators between them.
pub data Form : Type 0 where
  operand : Form
  chain : Form

-- `IsText form words filter`: the words are a text of this filter. `and` and `or` have the same
-- precedence and group from the left; operands with no operator between them are combined by `and`;
-- `not` applies to the operand that follows it. The arguments `p` and `q` belong to the references
-- of the filter, and are not used.
pub data IsText : Form → List (List ℕ) → Filter → Type 0 where
  -- FIELD OPERATOR VALUE
  comparison : (word sign value : List ℕ) (field : Field) (operator : Operator)
      (condition : Condition) (filter : Filter) → Is (keywords.Field field) word
      → Is (keywords.Operator operator) sign → IsComparison field operator value condition
      → compared (is_negated operator) condition filter
      → IsText operand (word ∷ sign ∷ value ∷ []) filter
  -- FIELD VALUE, which is FIELD = VALUE
  equality : (word value : List ℕ) (field : Field) (condition : Condition)
      → Is (keywords.Field field) word → IsComparison field Equal value condition
      → IsText operand (word ∷ value ∷ []) (filters.Condition condition)
  -- autobound
  automatic : (word : List ℕ) → Is keywords.AutoBound word
      → IsText operand (word ∷ []) (filters.Condition AutoBound)
  -- not OPERAND
  negation : (p : Bor ⊤) (word : List ℕ) (words : List (List ℕ)) (filter : Filter)
      → Is keywords.Not word → IsText operand words filter
      → IsText operand (word ∷ words) (filters.Not' p filter)
  -- ( CHAIN )
  group : (first last : List ℕ) (words : List (List ℕ)) (filter : Filter) → Is keywords.Open first
      → IsText chain words filter → Is keywords.Close last
      → IsText operand (first ∷ (words ++ last ∷ [])) filter
  -- OPERAND
  only : (words : List (List ℕ)) (filter : Filter) → IsText operand words filter
      → IsText chain words filter
  -- CHAIN and OPERAND
  both : (p q : Bor ⊤) (first second : List (List ℕ)) (word : List ℕ) (f g : Filter)
      → IsText chain first f → Is keywords.And word → IsText operand second g
      → IsText chain (first ++ word ∷ second) (filters.And' p f q g)
  -- CHAIN OPERAND, which is CHAIN and OPERAND
  adjacent : (p q : Bor ⊤) (first second : List (List ℕ)) (f g : Filter)
      → IsText chain first f → IsText operand second g
      → IsText chain (first ++ second) (filters.And' p f q g)
  -- CHAIN or OPERAND
  either : (p q : Bor ⊤) (first second : List (List ℕ)) (word : List ℕ) (f g : Filter)
      → IsText chain first f → Is keywords.Or word → IsText operand second g
      → IsText chain (first ++ word ∷ second) (filters.Or' p f q g)

-- `AreStates words states`: the words are any number of `state STATE` and `exclude STATE`, which
-- select these states: `state` adds to them and `exclude` removes from them. The first `state` adds
-- to none, and the first `exclude` removes from all. `None` if there are no words.
pub data AreStates : List (List ℕ) → Option ℕ → Type 0 where
  unnamed : AreStates [] None
  added : (words : List (List ℕ)) (states : Option ℕ) (word name : List ℕ) (named : ℕ)
      → AreStates words states → Is keywords.State word → states_named name ≡ Some named
      → AreStates (words ++ word ∷ name ∷ []) (Some (bit_or (unwrap_or states 0) named))
  removed : (words : List (List ℕ)) (states : Option ℕ) (word name : List ℕ) (named : ℕ)
      → AreStates words states → Is keywords.Exclude word → states_named name ≡ Some named
      → AreStates (words ++ word ∷ name ∷ [])
      (Some (bit_and (unwrap_or states ALL) (bit_xor named ALL)))

-- `IsFilterText words states filter`: the words are states, and then the text of a filter, or
-- nothing.
pub data IsFilterText : List (List ℕ) → Option ℕ → Option Filter → Type 0 where
  without : (words : List (List ℕ)) (states : Option ℕ) → AreStates words states
      → IsFilterText words states None
  with : (named words : List (List ℕ)) (states : Option ℕ) (filter : Filter)
      → AreStates named states → IsText chain words filter
      → IsFilterText (named ++ words) states (Some filter)
