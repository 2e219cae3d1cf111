-- How a text splits at a byte, and into lines as it grows.
use Rattle.std.proofs.Common.{◌≡◌, ◌<◌, ◌≤◌, ◌+◌, ℕ, false, List, [], ◌∷◌, ◌++◌, length, take, drop}
use Rattle.std.proofs.Common.{None, Some, inl, inr, refl, sym, ◌∙◌, append_assoc, take-append-drop}
use Rattle.std.proofs.Common.{take_all, le_refl, add-one, arith}
use Rattle.std.specs.List.{All, slice_split}
use Rattle.std.proofs.lemmas.Bool.{cases_Bool, eq-eqb, eqb-true, false_from_ne_true}
use Rattle.std.proofs.lemmas.List.{get_or-take, get_or_default, length-take, same_from_push}
use Rattle.std.proofs.lemmas.List.Elements.{All-append}
use Rattle.std.proofs.lemmas.List.Splits.{slice_split_at}
use Rattle.std.proofs.Math.Seq.{drop-cons}
use Rattle.memchr.specs.Find.{IsFirstByte, Nowhere, Passes, is_byte}
use Rattle.program_streams.specs.Lines.{SplitsIntoLines}

-- ---- splitting at the first position of a byte

module _ (c : ℕ) (front xs : List ℕ) (none : All (λ b. is_byte c b ≡ false) front) where
  no_line_feed_before : (n : ℕ) → n ≤ length xs → Nowhere (Passes (is_byte c) xs) 0 n
      → All (λ b. is_byte c b ≡ false) (front ++ take n xs)
  no_line_feed_before n within before = All-append (λ b. is_byte c b ≡ false) front (take n xs) none
      (λ k d below.
      let inside : k < n = omega (arith, below, length-take n xs) in
      rw (get_or-take, get_or_default xs k d 0 (omega arith))
      (false_from_ne_true _ (before k (omega arith) inside)))

  pub split_before_line_feed : (n : ℕ) → IsFirstByte (is_byte c) xs (Some n) → xs ≡ take n xs ++ c
      ∷ drop (n + 1) xs
  split_before_line_feed n h =
      grind (arith, drop-cons, eqb-true, add-one, take-append-drop)

  pub split_at_first : (n : ℕ) → IsFirstByte (is_byte c) xs (Some n)
      → slice_split (is_byte c) (front ++ xs)
      ≡ (front ++ take n xs) ∷ slice_split (is_byte c) (drop (n + 1) xs)
  split_at_first n h =
      grind (
        arith,
        append_assoc,
        split_before_line_feed n h,
        slice_split_at,
        no_line_feed_before n,
        eq-eqb,
      )

  pub no_line_feed_before_first : IsFirstByte (is_byte c) xs None
      → All (λ b. is_byte c b ≡ false) (front ++ xs)
  no_line_feed_before_first h = rw (take_all, le_refl) at
      (no_line_feed_before (length xs) (le_refl (length xs)) h)

-- ---- lines

-- how a text splits, and how it splits with more bytes after it
pub record LineSplit (text : List ℕ) : Type 0 where
  pub whole : List (List ℕ)
  pub rest : List ℕ
  pub splits : SplitsIntoLines text whole rest
  more : (m : List ℕ) → slice_split (is_byte 10) (text ++ m)
      ≡ whole ++ slice_split (is_byte 10) (rest ++ m)

-- the split of a text with one more byte before it, which is not a line feed
split_with_byte_before : (b : ℕ) (bs : List ℕ) → is_byte 10 b ≡ false → (whole : List (List ℕ))
    (rest : List ℕ) → SplitsIntoLines bs whole rest
    → ((m : List ℕ) → slice_split (is_byte 10) (bs ++ m)
    ≡ whole ++ slice_split (is_byte 10) (rest ++ m)) → LineSplit (b ∷ bs)
split_with_byte_before b bs h [] rest p more =
    record { whole = []; rest = b ∷ rest; splits = rw (h, p); more = λ m. rw (h, more m) }
split_with_byte_before b bs h (line ∷ whole) rest p more = record {
  whole = (b ∷ line) ∷ whole;
  rest = rest;
  splits = rw (h, p);
  more = λ m. rw (h, more m);
}

-- every text splits into lines
pub every_text_splits : (text : List ℕ) → LineSplit text
every_text_splits [] = record { whole = []; rest = []; splits = refl; more = λ m. refl }
every_text_splits (b ∷ bs) = let s = every_text_splits bs in elim (cases_Bool (is_byte 10 b)) [
  | inl feed ↦ record {
    whole = [] ∷ s.whole;
    rest = s.rest;
    splits = rw (feed, s.splits);
    more = λ m. rw (feed, s.more m);
  }
  | inr other ↦ split_with_byte_before b bs other s.whole s.rest s.splits s.more
]

-- a text splits in only one way
pub SplitsIntoLines-one_way : (text : List ℕ) (whole whole' : List (List ℕ)) (rest rest' : List ℕ)
    → SplitsIntoLines text whole rest → SplitsIntoLines text whole' rest'
    → (whole ≡ whole') × (rest ≡ rest')
SplitsIntoLines-one_way text whole whole' rest rest' p q =
    same_from_push whole whole' rest rest' (sym p ∙ q)

-- a longer text has the lines of its first part, and then the lines of the rest of that part with
-- the bytes after it
pub SplitsIntoLines-append : (text more : List ℕ) (whole next : List (List ℕ)) (rest last : List ℕ)
    → SplitsIntoLines text whole rest → SplitsIntoLines (rest ++ more) next last
    → SplitsIntoLines (text ++ more) (whole ++ next) last
SplitsIntoLines-append text more whole next rest last p q =
    let s = every_text_splits text in
    let same = SplitsIntoLines-one_way text s.whole whole s.rest rest s.splits p in
    rw (s.more more, same.0, same.1, q, append_assoc)
