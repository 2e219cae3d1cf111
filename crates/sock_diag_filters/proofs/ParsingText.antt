-- Reading the words of a text byte by byte.
use Rattle.std.proofs.Common.{◌≡◌, ◌∙◌, ℕ, ◌+◌, ◌-◌, ◌<◌, ◌≤◌, List, [], ◌∷◌, ◌++◌, true, false}
use Rattle.std.proofs.Common.{refl, sym, ap, subst, append-nil, arith, Result, Ok, Err}
use Rattle.std.proofs.Common.{length, take, drop, Option, get_or, add-one}
use Rattle.std.proofs.Math.Seq.{drop-cons}
use Rattle.std.proofs.lemmas.List.{drop_all, get_or-drop, length-drop, length-take-le}
use Rattle.std.proofs.lemmas.List.{take_more}
use Rattle.std.specs.Prelude.{⊤, IfOk, IfErr}
use Rattle.sock_diag_filters.specs.Readers.{IsFinished}
use Rattle.sock_diag_filters.specs.declared.text.parsed.ParsedFilter.{ParsedFilter}
use Rattle.std.specs.Char.{is_ascii_whitespace}
use Rattle.sock_diag_filters.specs.declared.text.parsed.FilterTextError.{FilterTextError}
use Rattle.sock_diag_filters.specs.declared.text.parsed.Part.{Part}
use Rattle.sock_diag_filters.specs.Parsed.{IsFilterTextError, IsParsed, ReadsAt, outcome}
use Rattle.sock_diag_filters.specs.Reading.{State, initial, is_complete}
use Rattle.sock_diag_filters.specs.Words.{placed, placed_words, words_from, words_of}
use Rattle.sock_diag_filters.proofs.Parsing.{error_is_first, incomplete_is_error, outcome_is_read}
use Rattle.sock_diag_filters.proofs.ReadTexts.{read_is_text}

-- `Leads s start word later text`: the words of the text lead to the same as, from the state `s`,
-- the words that begin with `word` at `start`, which `later` follows.
abbrev pub Leads : State → ℕ → List ℕ → List ℕ → List ℕ → Type 0
Leads s start word later text = outcome s (words_from start word later) ≡ outcome initial
    (placed_words text)

-- The words at a byte that ends a word.
space_ends : (start : ℕ) (word : List ℕ) (byte : ℕ) (later : List ℕ) → is_ascii_whitespace byte ≡
    true
    → words_from start word (byte ∷ later)
    ≡ placed start word ++ words_from (start + length word + 1) [] later
space_ends start word byte later space = rw space refl

-- The words at any other byte.
byte_continues : (start : ℕ) (word : List ℕ) (byte : ℕ) (later : List ℕ)
    → is_ascii_whitespace byte ≡ false
    → words_from start word (byte ∷ later) ≡ words_from start (word ++ byte ∷ []) later
byte_continues start word byte later other = rw other refl

pub leads_after_word : (s t : State) (start : ℕ) (word : List ℕ) (byte : ℕ) (later text : List ℕ)
    (done : ⊤) → is_ascii_whitespace byte ≡ true → ReadsAt s start word (Ok done) t
    → Leads s start word (byte ∷ later) text → Leads t (start + length word + 1) [] later text
leads_after_word s t start word byte later text done space reads leads =
    sym (reads (words_from (start + length word + 1) [] later))
    ∙ (ap (outcome s) (sym (space_ends start word byte later space)) ∙ leads)

pub leads_after_byte : (s : State) (start : ℕ) (word : List ℕ) (byte : ℕ) (later text : List ℕ)
    → is_ascii_whitespace byte ≡ false
    → Leads s start word (byte ∷ later) text → Leads s start (word ++ byte ∷ []) later text
leads_after_byte s start word byte later text other leads =
    ap (outcome s) (sym (byte_continues start word byte later other)) ∙ leads

-- A word that is rejected, before other bytes and at the end.
pub rejected_word : (s t : State) (start : ℕ) (word : List ℕ) (byte : ℕ) (later text : List ℕ)
    (e : FilterTextError) → is_ascii_whitespace byte ≡ true → ReadsAt s start word (Err e) t
    → Leads s start word (byte ∷ later) text → IsFilterTextError text e
rejected_word s t start word byte later text e space reads leads =
    error_is_first text e
    (sym leads ∙ (ap (outcome s) (space_ends start word byte later space)
    ∙ reads (words_from (start + length word + 1) [] later)))

pub rejected_last_word : (s t : State) (start : ℕ) (word text : List ℕ)
    (e : FilterTextError) → ReadsAt s start word (Err e) t
    → Leads s start word [] text → IsFilterTextError text e
rejected_last_word s t start word text e reads leads =
    error_is_first text e
    (sym leads ∙ (ap (outcome s) (sym (append-nil (placed start word))) ∙ reads []))

pub last_word : (s t : State) (start : ℕ) (word text : List ℕ)
    (done : ⊤) → ReadsAt s start word (Ok done) t
    → Leads s start word [] text → outcome initial (placed_words text) ≡ Ok t
last_word s t start word text done reads leads =
    sym leads ∙ (ap (outcome s) (sym (append-nil (placed start word))) ∙ reads [])

pub finished_is_parsed : (text : List ℕ) (t : State) (states : Option ℕ) (parts : List Part)
    → outcome initial (placed_words text) ≡ Ok t → is_complete t ≡ true → states ≡ t.states
    → parts ≡ t.parts → IsParsed (words_of text) states parts
finished_is_parsed text t states parts h complete a b =
    subst (λ (x : Option ℕ). IsParsed (words_of text) x parts) (sym a)
    (subst (λ (x : List Part). IsParsed (words_of text) t.states x) (sym b)
    (read_is_text (words_of text) t (outcome_is_read initial (placed_words text) t h) complete))

-- ---- by the index of a byte

-- `LeadsAt s start index text`: the words of the text lead to the same as, from the state `s`,
-- those of the text from `start` on, of which the bytes before `index` are the beginning of a word.
abbrev pub LeadsAt : State → ℕ → ℕ → List ℕ → Type 0
LeadsAt s start index text =
    outcome s (words_from start (take (index - start) (drop start text)) (drop index text))
    ≡ outcome initial (placed_words text)

drop_at_byte : (index : ℕ) (text : List ℕ) → index < length text
    → drop index text ≡ get_or text index 0 ∷ drop (index + 1) text
drop_at_byte index text within = rw add-one (drop-cons text index 0 within)

leads_at_byte : (s : State) (start index : ℕ) (text : List ℕ) → index < length text
    → LeadsAt s start index text
    → Leads s start (take (index - start) (drop start text)) (get_or text index 0 ∷ drop (index + 1)
    text) text
leads_at_byte s start index text within leads =
    ap (λ (l : List ℕ). outcome s (words_from start (take (index - start) (drop start text)) l))
    (sym (drop_at_byte index text within)) ∙ leads

pub rejected_at : (s t : State) (start index : ℕ) (text : List ℕ) (e : FilterTextError)
    → index < length text → is_ascii_whitespace (get_or text index 0) ≡ true
    → ReadsAt s start (take (index - start) (drop start text)) (Err e) t
    → LeadsAt s start index text → IsFilterTextError text e
rejected_at s t start index text e within space reads leads =
    rejected_word s t start _ (get_or text index 0) (drop (index + 1) text) text e space reads
    (leads_at_byte s start index text within leads)

pub space_step : (s t u : State) (start index next_start : ℕ) (text : List ℕ) (done : ⊤)
    → start ≤ index → index < length text → is_ascii_whitespace (get_or text index 0) ≡ true
    → ReadsAt s start (take (index - start) (drop start text)) (Ok done) t
    → LeadsAt s start index text → u ≡ t → next_start ≡ index + 1
    → LeadsAt u next_start (index + 1) text
space_step s t u start index next_start text done bound within space reads leads same at =
    let after = leads_after_word s t start (take (index - start) (drop start text))
    (get_or text index 0) (drop (index + 1) text) text done space reads
    (leads_at_byte s start index text within leads) in
    let long : length (take (index - start) (drop start text)) ≡ index - start =
    length-take-le (index - start) (drop start text) (omega (arith, length-drop start text)) in
    let ends : start + length (take (index - start) (drop start text)) + 1 ≡ next_start =
    omega (arith, long, at, bound) in
    let none : index + 1 - next_start ≡ 0 = omega (arith, at) in
    rw same (ap (λ (n : ℕ). outcome t (words_from next_start (take n (drop next_start text)) (drop
    (index + 1) text))) none
    ∙ subst (λ (n : ℕ). outcome t (words_from n [] (drop (index + 1) text)) ≡ outcome initial
    (placed_words text)) ends after)

pub byte_step : (s u : State) (start index next_start : ℕ) (text : List ℕ)
    → start ≤ index → index < length text → is_ascii_whitespace (get_or text index 0) ≡ false
    → LeadsAt s start index text → u ≡ s → next_start ≡ start
    → LeadsAt u next_start (index + 1) text
byte_step s u start index next_start text bound within other leads same at =
    let after = leads_after_byte s start (take (index - start) (drop start text))
    (get_or text index 0) (drop (index + 1) text) text other
    (leads_at_byte s start index text within leads) in
    let short : index - start < length (drop start text) = omega (
      arith,
      length-drop start text,
      bound,
      within,
    ) in
    let item : get_or (drop start text) (index - start) 0 ≡ get_or text index 0 =
    get_or-drop start text (index - start) 0
    ∙ ap (λ (n : ℕ). get_or text n 0) (omega (arith, bound)) in
    let longer : take (index + 1 - start) (drop start text)
    ≡ take (index - start) (drop start text) ++ get_or text index 0 ∷ [] =
    ap (λ (n : ℕ). take n (drop start text)) (omega (arith, bound))
    ∙ (take_more (drop start text) (index - start) 0 short
    ∙ ap (λ (b : ℕ). take (index - start) (drop start text) ++ b ∷ []) item) in
    rw (same, at) (ap (λ (l : List ℕ). outcome s (words_from start l (drop (index + 1) text)))
    longer ∙ after)

-- The text from `start` on.
abbrev pub rest_of : ℕ → List ℕ → List ℕ
rest_of start text = take (length text - start) (drop start text)

leads_at_end : (s : State) (start index : ℕ) (text : List ℕ) → index ≡ length text
    → LeadsAt s start index text → Leads s start (rest_of start text) [] text
leads_at_end s start index text all leads =
    let none : drop index text ≡ [] = drop_all index text (omega (arith, all)) in
    ap (λ (l : List ℕ). outcome s (words_from start (rest_of start text) l)) (sym none)
    ∙ (ap (λ (n : ℕ). outcome s (words_from start (take (n - start) (drop start text)) (drop index
    text)))
    (sym all) ∙ leads)

pub rejected_at_end : (s t : State) (start index : ℕ) (text : List ℕ) (e : FilterTextError)
    → index ≡ length text → ReadsAt s start (rest_of start text) (Err e) t
    → LeadsAt s start index text → IsFilterTextError text e
rejected_at_end s t start index text e all reads leads =
    rejected_last_word s t start (rest_of start text) text e reads (leads_at_end s start index text
    all leads)

pub read_at_end : (s t : State) (start index : ℕ) (text : List ℕ) (done : ⊤)
    → index ≡ length text → ReadsAt s start (rest_of start text) (Ok done) t
    → LeadsAt s start index text → outcome initial (placed_words text) ≡ Ok t
read_at_end s t start index text done all reads leads =
    last_word s t start (rest_of start text) text done reads (leads_at_end s start index text all
    leads)

pub finish_parsed : (text : List ℕ) (t : State) (r : Result ParsedFilter FilterTextError)
    → IsFinished t r → outcome initial (placed_words text) ≡ Ok t
    → IfOk r (λ p. IsParsed (words_of text) p.states p.parts.items)
finish_parsed text t (Ok p) h o = finished_is_parsed text t p.states p.parts.items o h.0 h.1 h.2
finish_parsed text t (Err e) h o = tt

pub finish_rejected : (text : List ℕ) (t : State) (r : Result ParsedFilter FilterTextError)
    → IsFinished t r → outcome initial (placed_words text) ≡ Ok t
    → IfErr r (λ e. IsFilterTextError text e)
finish_rejected text t (Ok p) h o = tt
finish_rejected text t (Err e) h o =
    subst (IsFilterTextError text) (sym h.1) (incomplete_is_error text t o h.0)
