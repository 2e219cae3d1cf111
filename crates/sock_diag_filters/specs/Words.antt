-- The words of a text: what ASCII white space separates.
use Rattle.std.specs.Prelude.{ℕ, ◌+◌, if◌then◌else◌, List, [], ◌∷◌, ◌++◌, length, map}
use Rattle.std.specs.Char.{is_ascii_whitespace}

-- `placed start word`: the word with its offset, if it is not empty.
abbrev pub placed : (start : ℕ) → List ℕ → List (ℕ × List ℕ)
placed start [] = []
placed start (byte ∷ later) = (start, byte ∷ later) ∷ []

-- `words_from start word bytes`: the words of a text with their offsets. The first of them begins
-- at `start` with `word`, which `bytes` follow.
abbrev pub words_from : (start : ℕ) → List ℕ → List ℕ → List (ℕ × List ℕ)
words_from start word [] = placed start word
words_from start word (byte ∷ later) =
    if is_ascii_whitespace byte
    then placed start word ++ words_from (start + length word + 1) [] later
    else words_from start (word ++ byte ∷ []) later

-- The words of a text, each (`.1`) with its offset in bytes (`.0`).
abbrev pub placed_words : List ℕ → List (ℕ × List ℕ)
placed_words text = words_from 0 [] text

-- Words without their offsets.
abbrev pub without_offsets : List (ℕ × List ℕ) → List (List ℕ)
without_offsets words = map (λ word. word.1) words

-- The words of a text.
abbrev pub words_of : List ℕ → List (List ℕ)
words_of text = without_offsets (placed_words text)
