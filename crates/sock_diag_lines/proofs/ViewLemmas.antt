-- The values of a reply, appended one at a time, are the joined values; and the numbers that are
-- left of a list.
use Rattle.std.proofs.Common.{◌≡◌, ◌+◌, ℕ, suc, List, ◌∷◌, ◌++◌, [], drop, Some, slice_get, refl}
use Rattle.std.proofs.Common.{ap, ◌∙◌, add-one, append_assoc}
use Rattle.std.specs.List.{join_with_byte}
use Rattle.std.proofs.lemmas.Option.{get_or_from_slice_get, slice_get_within}
use Rattle.std.proofs.Math.Seq.{drop-cons}

pub left_at : (xs : List ℕ) (i x : ℕ) → slice_get xs i ≡ Some x → drop i xs ≡ x ∷ drop (i + 1) xs
left_at xs i x h = rw add-one (drop-cons xs i 0 (slice_get_within xs i x h)
    ∙ ap (λ y. y ∷ drop (suc i) xs) (get_or_from_slice_get xs i x 0 h))

-- a text followed by words, each after a space
abbrev pub with_words : List ℕ → List (List ℕ) → List ℕ
with_words text [] = text
with_words text (word ∷ words) = with_words (text ++ 32 ∷ word) words

join_next : (first word : List ℕ) (words : List (List ℕ))
    → join_with_byte 32 ((first ++ 32 ∷ word) ∷ words) ≡ join_with_byte 32 (first ∷ word ∷ words)
join_next first word [] = refl
join_next first word (next ∷ words) =
    append_assoc first (32 ∷ word) (32 ∷ join_with_byte 32 (next ∷ words))

pub joined_by_spaces : (front first : List ℕ) (words : List (List ℕ))
    → with_words (front ++ first) words ≡ front ++ join_with_byte 32 (first ∷ words)
joined_by_spaces front first [] = refl
joined_by_spaces front first (word ∷ words) =
    ap (λ t. with_words t words) (append_assoc front first (32 ∷ word))
    ∙ joined_by_spaces front (first ++ 32 ∷ word) words
    ∙ ap (λ t. front ++ t) (join_next first word words)
