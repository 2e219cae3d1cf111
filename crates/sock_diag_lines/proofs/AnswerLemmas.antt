-- The request in a line, and that a line has one answer.
use Rattle.std.proofs.Common.{◌≡◌, ◌≢◌, ◌∙◌, ◌⊎◌, inl, inr, ℕ, List, [], ◌∷◌, ◌++◌, length, codes}
use Rattle.std.proofs.Common.{get_or, refl, sym, ap, arith}
use Rattle.std.specs.List.{AllByRecursion, join_with_byte, position_or_len, slice_split}
use Rattle.std.proofs.lemmas.List.Sums.{fails_before_first, passes_at_first, split_at_first}
use Rattle.std.specs.Str.{bytes_eq}
use Rattle.std.proofs.lemmas.Bool.{cases_lt, eqb-true}
use Rattle.std.proofs.lemmas.List.Splits.{join_with_byte-slice_split, length-slice_split}
use Rattle.std.proofs.lemmas.List.Splits.{slice_split_first, slice_split_none}
use Rattle.netlink_core.specs.Bytes.{IsBytes}
use Rattle.sock_diag_lines.specs.Answer.{IsAnswerOf, IsBadLine, IsRequest, name_entry}
use Rattle.sock_diag_lines.specs.private.LineRequest.{IsAnswerTo, IsParsedAs}
use Rattle.sock_diag_lines.specs.DumpLine.{IsDumpRequest, IsDumpAnswer}
use Rattle.sock_diag_lines.specs.HexField.{AreHexFields, IsHexField, is_space}
use Rattle.sock_diag_lines.specs.AnswerText.{AreEquivalentUnder, HasWritableValue, IsAnswerUnder}
use Rattle.sock_diag_lines.specs.declared.answers.LineRequest.{LineRequest}
use Rattle.sock_diag_lines.specs.declared.answers.LineRequest.TheVariants.{Field, Dump, Nothing}
use Rattle.sock_diag_lines.specs.declared.answers.Name.{Name}
use Rattle.sock_diag_lines.specs.declared.answers.Name.TheVariants as name_variants
use Rattle.sock_diag_lines.proofs.AnswerTexts.{same_answer, some_answer}
use Rattle.sock_diag_lines.proofs.AnswerTexts.{same_text_iff_equivalent}
use Rattle.sock_diag_lines.proofs.Deciding.{both_or_not, same_or_not}
use Rattle.sock_diag_lines.proofs.DumpLaws.{fields_in_range, has_dump_text, one_dump_text}
use Rattle.sock_diag_lines.proofs.FieldLaws.{IsBytes-field}
use Rattle.sock_diag_lines.proofs.FieldLists.{field_or_not, one_field, one_list_of_bytes}
use Rattle.sock_diag_lines.proofs.FieldLists.{row_or_not}
use Rattle.sock_diag_lines.proofs.NameLaws.{name_answer_laws}

-- ---- names

-- all names
abbrev names : List Name
names = name_variants.UnixRequest ∷ name_variants.UnixResponse ∷ name_variants.InetRequest ∷
    name_variants.InetResponse ∷ name_variants.SocketId4 ∷ name_variants.SocketId6 ∷
    name_variants.Message
    ∷ name_variants.NetlinkMessage ∷ name_variants.UnixView ∷ []

-- the name that is spelled in this way, if there is one
abbrev name_of_spelling : List ℕ → Name
name_of_spelling word =
    get_or names (position_or_len (λ name. bytes_eq word (name_entry name).0) names)
    name_variants.UnixView

-- each name is found by its spelling, which ends at the first space
spelling_of_name : (name : Name) → (name_of_spelling (name_entry name).0 ≡ name)
    × ((text : List ℕ) → slice_split is_space ((name_entry name).0 ++ 32 ∷ text)
    ≡ (name_entry name).0 ∷ slice_split is_space text)
spelling_of_name name_variants.UnixRequest = (refl, λ text. refl)
spelling_of_name name_variants.UnixResponse = (refl, λ text. refl)
spelling_of_name name_variants.InetRequest = (refl, λ text. refl)
spelling_of_name name_variants.InetResponse = (refl, λ text. refl)
spelling_of_name name_variants.SocketId4 = (refl, λ text. refl)
spelling_of_name name_variants.SocketId6 = (refl, λ text. refl)
spelling_of_name name_variants.Message = (refl, λ text. refl)
spelling_of_name name_variants.NetlinkMessage = (refl, λ text. refl)
spelling_of_name name_variants.UnixView = (refl, λ text. refl)

-- different names have different spellings
one_name : (name other : Name) → (name_entry name).0 ≡ (name_entry other).0 → name ≡ other
one_name name other e = sym (spelling_of_name name).0 ∙ ap name_of_spelling e
    ∙ (spelling_of_name other).0

pub not_dump : (name : Name) → (name_entry name).0 ≢ codes "dump"
not_dump name e =
    let is : name ≡ name_variants.UnixView = sym (spelling_of_name name).0 ∙ ap name_of_spelling e
    in
    let same = rw is at e in omega (arith, ap length same)

-- a word is the spelling of a name, or of none
name_or_not : (word : List ℕ) → ((name : Name) × (word ≡ (name_entry name).0))
    ⊎ ¬ ((name : Name) × (word ≡ (name_entry name).0))
name_or_not word = elim (same_or_not word (name_entry (name_of_spelling word)).0) [
  | inl is ↦ inl (name_of_spelling word, is)
  | inr other ↦ inr (λ known. other (rw (known.1, (spelling_of_name known.0).0)))
]

-- ---- the word before the first space

-- the line is a word without a space, a space and a text; or it has no space
first_space : (line : List ℕ) → ((word text : List ℕ) × (line ≡ word ++ 32 ∷ text)
    × (slice_split is_space line ≡ word ∷ slice_split is_space text))
    ⊎ (slice_split is_space line ≡ line ∷ [])
first_space line = elim (cases_lt (position_or_len is_space line) (length line)) [
  | inl within ↦
      let cut = rw (eqb-true _ 32 (passes_at_first is_space line 0 within)) at
      (split_at_first is_space line 0 within) in
      inl (_, _, cut, slice_split_first is_space line 0 within)
  | inr past ↦ inr (slice_split_none is_space line (λ k d below.
      fails_before_first is_space line k d (omega (arith, past, below))))
]

-- a request in the line starts with the word before the first space, and its fields are the text
-- after it
module _ (line word text : List ℕ)
    (cut : slice_split is_space line ≡ word ∷ slice_split is_space text) where
  request_is_named : (name : List ℕ) (Q : List ℕ → Type 0)
      → ((t : List ℕ) → slice_split is_space (name ++ 32 ∷ t) ≡ name ∷ slice_split is_space t)
      → (t : List ℕ) × (line ≡ name ++ 32 ∷ t) × Q t → (word ≡ name) × Q text
  request_is_named name Q ends (t, e, q) =
      let parts = sym cut ∙ ap (slice_split is_space) e ∙ ends t in
      let same : slice_split is_space text ≡ slice_split is_space t = cc in
      let texts = simp (join_with_byte-slice_split 32) at (ap (join_with_byte 32) same) in
      (cc, rw texts q)

  -- if the text is neither a hex field of a name nor hex fields of a dump, the line is not a
  -- request
  pub no_request : ((name : Name) (bytes : List ℕ) → word ≡ (name_entry name).0
      → ¬ IsHexField text bytes)
      → ((datagrams : List (List ℕ)) → word ≡ codes "dump" → ¬ AreHexFields text datagrams)
      → IsBadLine line
  no_request unnamed undumped = record {
    unnamed = λ name bytes h.
        let here = request_is_named _ _ (spelling_of_name name).1 h in
        unnamed name bytes here.0 here.1;
    undumped = λ datagrams h.
        let here = request_is_named (codes "dump") _ (λ t. refl) h in
        undumped datagrams here.0 here.1;
  }

-- a line without a space is not a request
no_space : (line : List ℕ) → slice_split is_space line ≡ line ∷ [] → IsBadLine line
no_space line none = record {
  unnamed = λ name bytes h. apart _ h.0
      (ap (slice_split is_space) h.1 ∙ (spelling_of_name name).1 h.0);
  undumped = λ datagrams h. apart _ h.0 (ap (slice_split is_space) h.1);
}
  where
    apart : (word text : List ℕ) → slice_split is_space line ≡ word ∷ slice_split is_space text → ⊥
    apart word text e =
        omega (arith, length-slice_split is_space text, ap length (sym none ∙ e))

-- ---- the answer to a line

-- the answer to the name and the bytes of a line answers the line
field_answers : (line : List ℕ) (name : Name) (bytes text : List ℕ) → IsRequest line name bytes
    → IsAnswerUnder (name_entry name).1 bytes text → IsAnswerOf line text
field_answers line name bytes text (t, e, field) tells =
    let cut = ap (slice_split is_space) e ∙ (spelling_of_name name).1 t in
    record {
      named = λ other bytes' also.
          let here = request_is_named line _ t cut _ _ (spelling_of_name other).1 also in
          rw (← one_name name other here.0, ← one_field t bytes bytes' field here.1) tells;
      dumped = λ datagrams dump.
          absurd (not_dump name (request_is_named line _ t cut (codes "dump") _
          (λ t. refl) dump).0);
      other = λ none. absurd (none.unnamed name bytes (t, e, field));
    }

-- the answer to the datagrams of a line answers the line
dump_answers : (line : List ℕ) (datagrams : List (List ℕ)) (text : List ℕ)
    → IsDumpRequest line datagrams → IsDumpAnswer datagrams text → IsAnswerOf line text
dump_answers line datagrams text (t, e, fields) tells =
    let cut = ap (slice_split is_space) e in
    record {
      named = λ name bytes asked.
          absurd (not_dump name
          (sym (request_is_named line _ t cut _ _ (spelling_of_name name).1 asked).0));
      dumped = λ others also.
          let here = request_is_named line _ t cut (codes "dump") _ (λ t. refl) also in
          rw (← one_list_of_bytes (slice_split is_space t) datagrams others fields here.1) tells;
      other = λ none. absurd (none.undumped datagrams (t, e, fields));
    }

-- `bad line` answers a line that is not a request
bad_line_answers : (line text : List ℕ) → IsBadLine line → text ≡ codes "bad line"
    → IsAnswerOf line text
bad_line_answers line text none e = record {
  named = λ name bytes asked. absurd (none.unnamed name bytes asked);
  dumped = λ datagrams dump. absurd (none.undumped datagrams dump);
  other = λ none. e;
}

pub datagrams_in_range : (line : List ℕ) (datagrams : List (List ℕ))
    → IsDumpRequest line datagrams → AllByRecursion IsBytes datagrams
datagrams_in_range line datagrams dump =
    fields_in_range (slice_split is_space dump.0) datagrams dump.2

-- the line has exactly one answer
abbrev TheAnswer : List ℕ → Type 0
TheAnswer line = (text : List ℕ) × IsAnswerOf line text
    × ((other : List ℕ) → IsAnswerOf line other → other ≡ text)

field_answer : (line : List ℕ) (name : Name) (bytes : List ℕ) → IsRequest line name bytes
    → TheAnswer line
field_answer line name bytes asked =
    let in_range = IsBytes-field asked.0 bytes asked.2 in
    let text = some_answer (name_entry name).1 (name_answer_laws name).0 bytes in_range in
    let only = λ (other : List ℕ) (is : IsAnswerOf line other). same_answer (name_entry name).1
    (name_answer_laws name).0 bytes other text.0 in_range (is.named name bytes asked) text.1 in
    (text.0, field_answers line name bytes text.0 asked text.1, only)

dump_answer : (line : List ℕ) (datagrams : List (List ℕ)) → IsDumpRequest line datagrams
    → TheAnswer line
dump_answer line datagrams dump =
    let in_range = datagrams_in_range line datagrams dump in
    let text = has_dump_text datagrams in_range in
    let only = λ (other : List ℕ) (is : IsAnswerOf line other).
    one_dump_text datagrams in_range other text.0 (is.dumped datagrams dump) text.1 in
    (text.0, dump_answers line datagrams text.0 dump text.1, only)

bad_answer : (line : List ℕ) → IsBadLine line → TheAnswer line
bad_answer line none =
    (_, bad_line_answers line _ none refl, λ other is. is.other none)

the_answer : (line : List ℕ) → TheAnswer line
the_answer line = elim (first_space line) [
  | inr none ↦ bad_answer line (no_space line none)
  | inl (word, text, e, cut) ↦ elim (both_or_not (name_or_not word) (field_or_not text)) [
    | inl ((name, is), (bytes, field)) ↦ field_answer line name bytes (text, rw is at e, field)
    | inr no_field ↦
        let row = row_or_not (slice_split is_space text) in
        elim (both_or_not (same_or_not word (codes "dump")) row) [
          | inl (is, (datagrams, fields)) ↦ dump_answer line datagrams (text, rw is at e, fields)
          | inr no_dump ↦ bad_answer line (no_request line word text cut
              (λ name bytes is field. no_field ((name, is), (bytes, field)))
              (λ datagrams is fields. no_dump (is, (datagrams, fields))))
        ]
  ]
]

-- the answer, as a function of the line
pub answer_of : List ℕ → List ℕ
answer_of line = (the_answer line).0

pub answer_of-is : (line : List ℕ) → IsAnswerOf line (answer_of line)
unfolding answer_of
answer_of-is line = (the_answer line).1

-- each line has at most one answer
pub one_answer_of_line : (line a b : List ℕ) → IsAnswerOf line a → IsAnswerOf line b → a ≡ b
one_answer_of_line line a b h k = (the_answer line).2 a h ∙ sym ((the_answer line).2 b k)

-- any function that returns an answer to each line is this one
pub one_function : (f : List ℕ → List ℕ) → ((line : List ℕ) → IsAnswerOf line (f line))
    → answer_of ≡ f
one_function f h = λ i line. one_answer_of_line line (answer_of line) (f line) (answer_of-is line)
    (h line)
    i

-- the answer to the request in a line answers the line
pub read_answer : (line : List ℕ) (asked : LineRequest) (bytes text : List ℕ)
    → IsParsedAs line asked bytes
    → IsAnswerTo asked bytes text → IsAnswerOf line text
read_answer line (Field name) bytes text asked tells =
    field_answers line name bytes text asked tells
read_answer line (Dump dump) bytes text (datagrams, asked, read) tells =
    dump_answers line datagrams text asked
    (read.0, read.1, tells read.0 read.2)
read_answer line Nothing bytes text none e = bad_line_answers line text none e

-- ---- the answers to two lines

-- two inputs of one name with writable values have the same answer if they are equivalent,
-- and, except for `unixview`, only if they are
pub same_answer_iff_equivalent : (name : Name) (line other bytes bytes' text text' : List ℕ)
    → IsAnswerOf line text → IsAnswerOf other text' → IsRequest line name bytes
    → IsRequest other name bytes' → HasWritableValue (name_entry name).1 bytes
    → HasWritableValue (name_entry name).1 bytes'
    → (name ≢ name_variants.UnixView → text ≡ text' → AreEquivalentUnder (name_entry name).1 bytes
    bytes')
    × (AreEquivalentUnder (name_entry name).1 bytes bytes' → text ≡ text')
same_answer_iff_equivalent name line other bytes bytes' text text' is is' asked asked' ok ok' =
    let both = same_text_iff_equivalent (name_entry name).1 (name_answer_laws name).0 bytes bytes'
    text text'
    (IsBytes-field asked.0 bytes asked.2) (IsBytes-field asked'.0 bytes' asked'.2)
    (is.named name bytes asked) (is'.named name bytes' asked') ok ok' in
    (λ all. both.0 ((name_answer_laws name).1 all), both.1)
