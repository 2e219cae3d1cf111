-- Filters that are parsed from a text, and the errors of texts that are none.
use Rattle.std.specs.Prelude.{◌≡◌, ℕ, ◌<◌, nat_lt, if◌then◌else◌, List, [], ◌∷◌, ◌++◌, Option, None}
use Rattle.std.specs.Prelude.{Some, Result, Ok, Err, ⊤}
use Rattle.sock_diag_filters.specs.declared.filter.Filter.{Filter}
use Rattle.sock_diag_filters.specs.declared.text.parsed.FilterTextError.{FilterTextError}
use Rattle.sock_diag_filters.specs.declared.text.parsed.FilterTextError.TheVariants.{Incomplete}
use Rattle.sock_diag_filters.specs.declared.text.parsed.FilterTextError.TheVariants.{TooLong}
use Rattle.sock_diag_filters.specs.declared.text.parsed.FilterTextError.TheVariants.{Unexpected}
use Rattle.sock_diag_filters.specs.declared.text.parsed.Part.{Part}
use Rattle.sock_diag_filters.specs.declared.text.parsed.TheConstants.{MAX_PARTS}
use Rattle.sock_diag_filters.specs.Grammar.{IsFilterText}
use Rattle.sock_diag_filters.specs.Postfix.{optional_postfix}
use Rattle.sock_diag_filters.specs.Reading.{State, initial, next, reading, size}
use Rattle.sock_diag_filters.specs.Words.{placed, placed_words, without_offsets, words_of}

-- `IsParsed words states parts`: the words are a text of these states and of the filter whose parts
-- in postfix order are these; or of no filter, if there are no parts.
pub record IsParsed (words : List (List ℕ)) (states : Option ℕ) (parts : List Part) : Type 0 where
  pub filter : Option Filter
  pub text : IsFilterText words states filter
  pub complete : parts ≡ optional_postfix filter

-- `CanContinue words`: a text of a filter begins with these words.
pub record CanContinue (words : List (List ℕ)) : Type 0 where
  pub more : List (List ℕ)
  pub states : Option ℕ
  pub filter : Option Filter
  pub text : IsFilterText (words ++ more) states filter

-- `IsWordAt text offset before word`: `word` is at this offset of the text, after the words
-- `before`.
pub record IsWordAt (text : List ℕ) (offset : ℕ) (before : List (List ℕ))
    (word : List ℕ) : Type 0 where
  pub earlier : List (ℕ × List ℕ)
  pub later : List (ℕ × List ℕ)
  pub split : placed_words text ≡ earlier ++ (offset, word) ∷ later
  pub same : before ≡ without_offsets earlier

-- `IsFilterTextError text error`: the text is rejected with this error.
-- - `Unexpected offset`: a text of a filter begins with the words before the one at this offset,
--   and none begins with these and this word.
-- - `Incomplete`: a text of a filter begins with the words of the text, and they are none.
-- - `TooLong offset`: with the word at this offset the filter has more than MAX_PARTS parts.
abbrev pub IsFilterTextError : List ℕ → FilterTextError → Type 0
IsFilterTextError text (Unexpected offset) =
    (before : List (List ℕ)) × (word : List ℕ) × IsWordAt text offset before word
    × CanContinue before × (CanContinue (before ++ word ∷ []) → ⊥)
IsFilterTextError text Incomplete =
    CanContinue (words_of text)
    × ((states : Option ℕ) (filter : Option Filter) → IsFilterText (words_of text) states filter →
    ⊥)
IsFilterTextError text (TooLong offset) =
    (before : List (List ℕ)) × (word : List ℕ) × (state : State) × IsWordAt text offset before word
    × (reading initial (before ++ word ∷ []) ≡ Some state) × (MAX_PARTS < size state)

-- `outcome s words`: what reading these words in the state `s` leads to: a state, or the error at
-- the first word that cannot follow or has too many parts.
abbrev pub outcome : State → List (ℕ × List ℕ) → Result State FilterTextError
outcome s [] = Ok s
outcome s (word ∷ later) = elim (next s word.1) [
  | None ↦ Err (Unexpected word.0)
  | Some t ↦ if nat_lt MAX_PARTS (size t) then Err (TooLong word.0) else outcome t later
]

-- `ReadsAt old start word result new`: reading the word at this offset, unless it is empty, leads
-- from the state `old` to `new`, or to an error.
abbrev pub ReadsAt : State → ℕ → List ℕ → Result ⊤ FilterTextError → State → Type 0
ReadsAt old start word (Ok done) new =
    (later : List (ℕ × List ℕ)) → outcome old (placed start word ++ later) ≡ outcome new later
ReadsAt old start word (Err e) new =
    (later : List (ℕ × List ℕ)) → outcome old (placed start word ++ later) ≡ Err e
