-- The codec laws of numbers that make up the complete value of an attribute.
use Rattle.std.proofs.lemmas.Grind.{common_steps, same_number_lists}
use Rattle.std.proofs.Common.{Some, Ok, ◌≡◌, ◌∙◌, ℕ, suc, ◌+◌, ◌*◌, ◌/◌, ◌%◌, ◌≤◌, ◌<◌, ◌^◌, List}
use Rattle.std.proofs.Common.{[], ◌∷◌, ◌++◌, length, take, drop, refl, sym, arith}
use Rattle.std.specs.List.{AllByRecursion, slice_get}
use Rattle.std.proofs.lemmas.Option.{get_or_from_slice_get, slice_get_past}
use Rattle.std.proofs.lemmas.List.{append-nil, length-drop, length-take-le, take_rest}
use Rattle.byteorder.specs.Endian.{little_number, little_bytes, IsRead}
use Rattle.byteorder.specs.Numbers.{little_from-lt, little_number-reads_back}
use Rattle.byteorder.specs.Numbers.{length-bytes_low_first}
use Rattle.netlink_core.specs.Bytes.{IsBytes}
use Rattle.netlink_core.specs.laws.Byte.{IsBytes-left, IsBytes-nil, IsBytes-number, IsBytes-right}
use Rattle.netlink_core.proofs.AttributeTypeLaws.{same_bytes, whole_value_laws}
use Rattle.netlink_core.specs.Codec.{KeepsCodecLaws, as_codec}
use Rattle.std.specs.Prelude.{⊤, slice_index, flat_map}
use Rattle.sock_diag_attributes.specs.Numbers.{numbers_in, numbers_value, number_pair_value}
use Rattle.sock_diag_attributes.specs.Numbers.{parse_number_pair, number_pair_bytes}
use Rattle.sock_diag_attributes.specs.Numbers.{IsNumberPairInRange}

-- bytes of this length are the little-endian bytes of their number
number_exact : (width : ℕ) (x : List ℕ) → IsBytes x → length x ≡ width
    → x ≡ little_bytes width (little_number width x)
number_exact width x in_range long =
    let n : ℕ = little_number width x in
    same_bytes width x (little_bytes width n) in_range (IsBytes-number 0 width n) long
    (length-bytes_low_first 0 width n)
    (sym (rw append-nil at (little_number-reads_back width n []
    (little_from-lt 0 width x in_range))))

-- fewer than four bytes contain no number; other bytes contain a first number, and the numbers
-- after it
pub numbers_in_none : (x : List ℕ) → length x < 4 → numbers_in x ≡ []
numbers_in_none x short =
    grind arith

pub numbers_in_first : (x : List ℕ) → 4 ≤ length x → numbers_in x ≡ little_number 4 x
    ∷ numbers_in (drop 4 x)
numbers_in_first x long =
    grind arith

-- bytes whose length is a multiple of four are the little-endian bytes of their numbers
pub bytes_of_whole_numbers : (x : List ℕ) → IsBytes x → length x % 4 ≡ 0
    → (x ≡ flat_map (little_bytes 4) (numbers_in x))
    × AllByRecursion (λ n. n < 2 ^ 32) (numbers_in x)
bytes_of_whole_numbers [] in_range four = (refl, tt)
bytes_of_whole_numbers (a ∷ b ∷ c ∷ d ∷ rest) in_range four =
    let word : List ℕ = a ∷ b ∷ c ∷ d ∷ [] in
    let front : IsBytes word = IsBytes-left word rest in_range in
    let later = bytes_of_whole_numbers rest (IsBytes-right word rest in_range)
    (omega (arith, four)) in (
      λ i. number_exact 4 word front refl i ++ later.0 i,
      (little_from-lt 0 4 word front, later.1),
    )
bytes_of_whole_numbers _ in_range four = absurd (omega (arith, four))

-- a bound on the number at each index is a bound on each number
pub each_number_below : (bound : ℕ) (u : List ℕ) → ((i : ℕ) → slice_index u i < bound)
    → AllByRecursion (λ n. n < bound) u
each_number_below bound [] below = tt
each_number_below bound (n ∷ u) below = (below 0, each_number_below bound u (λ i. below (suc i)))

-- the length of numbers in bytes, four for each number
pub length_numbers : (u : List ℕ) → length (flat_map (little_bytes 4) u) ≡ 4 * length u
length_numbers [] = refl
length_numbers (n ∷ u) = omega (arith, length_numbers u)

-- the prefix of bytes that are long enough has the length of the numbers
pub numbers_prefix_length : (u bytes : List ℕ) → length (flat_map (little_bytes 4) u) ≤ length bytes
    → length (take (4 * length u) bytes) ≡ 4 * length u
numbers_prefix_length u bytes room = length-take-le _ bytes (omega (arith, length_numbers u))

-- numbers that have no bytes are no numbers
pub no_numbers : (u : List ℕ) → flat_map (little_bytes 4) u ≡ [] → u ≡ []
no_numbers [] none = refl
no_numbers (n ∷ u) none = absurd cc

-- the numbers in the bytes of numbers are these numbers
numbers_in_their_bytes : (u : List ℕ) → AllByRecursion (λ n. n < 2 ^ 32) u
    → numbers_in (flat_map (little_bytes 4) u) ≡ u
numbers_in_their_bytes [] fit = refl
numbers_in_their_bytes (n ∷ u) fit =
    grind (
      arith,
      little_number-reads_back 4 n (flat_map (little_bytes 4) u) fit.0,
      flat_map (little_bytes 4) u,
      numbers_in_their_bytes u fit.1,
    )

-- the bytes of numbers are bytes
pub numbers_in_range : (u : List ℕ) → IsBytes (flat_map (little_bytes 4) u)
numbers_in_range [] = IsBytes-nil
numbers_in_range (n ∷ u) =
    grind (arith, flat_map (little_bytes 4) u, numbers_in_range u)

-- both kinds of values satisfy the codec laws
pub numbers_laws : KeepsCodecLaws (as_codec numbers_value)
numbers_laws =
    grind (
      arith,
      common_steps,
      whole_value_laws,
      numbers_in,
      bytes_of_whole_numbers,
      numbers_in_range,
      length_numbers,
      numbers_in_their_bytes,
    )

pub number_pair_laws : (k : ℕ) → KeepsCodecLaws (as_codec (number_pair_value k))
number_pair_laws k = whole_value_laws (parse_number_pair k) number_pair_bytes
    IsNumberPairInRange (λ pair. ⊤) (λ x h. grind arith)
    (λ x u in_range h.
    let same : (little_number 4 x, little_number 4 (drop 4 x)) ≡ u = grind arith in
    let numbers : numbers_in x ≡ little_number 4 x ∷ little_number 4 (drop 4 x) ∷ [] =
    grind (arith, numbers_in_first, numbers_in_none, length-drop) in
    let exact = rw numbers at (bytes_of_whole_numbers x in_range (grind arith)) in
    rw (← same) (exact.0, (exact.1.0, exact.1.1.0), tt))
    (λ u fits. numbers_in_range (u.0 ∷ u.1 ∷ []))
    (λ u fits normal i. Ok (
      little_number-reads_back 4 u.0 (little_bytes 4 u.1) fits.0 i,
      little_number-reads_back 4 u.1 [] fits.1 i,
    ))

-- ---- borrowed numbers

-- the count of the numbers
pub count_of_numbers_in : (x : List ℕ) → length (numbers_in x) ≡ length x / 4
count_of_numbers_in (a ∷ b ∷ c ∷ d ∷ rest) = omega (arith, count_of_numbers_in rest)
count_of_numbers_in _ = refl

-- the number at an index within the bounds
pub number_in_list_at : (x : List ℕ) (i : ℕ) → 4 * i + 4 ≤ length x
    → slice_get (numbers_in x) i ≡ Some (little_number 4 (drop (4 * i) x))
number_in_list_at (a ∷ b ∷ c ∷ d ∷ rest) (suc i) long =
    let next : 4 * suc i ≡ suc (suc (suc (suc (4 * i)))) = omega arith in
    rw next (number_in_list_at rest i (omega arith))
number_in_list_at x i long = grind arith

-- numbers that were read one by one are the numbers in the bytes
pub numbers_read_by_index : (x u : List ℕ) → length x ≡ 4 * length u → IsRead little_number 4 x u
    → numbers_in x ≡ u
numbers_read_by_index x u long each =
    same_number_lists (numbers_in x) u (omega (arith, count_of_numbers_in x))
    (λ k l. get_or_from_slice_get _ k _ 0
    (number_in_list_at x k (omega (arith, count_of_numbers_in x, l)))
    ∙ sym (each k (omega (arith, count_of_numbers_in x, l))))

-- equal numbers are in equal bytes
pub numbers_in_same : (x y : List ℕ) → IsBytes x → IsBytes y → length x % 4 ≡ 0 → length y % 4 ≡ 0
    → numbers_in x ≡ numbers_in y → x ≡ y
numbers_in_same x y tx ty wx wy e =
    cc ((bytes_of_whole_numbers x tx wx).0, (bytes_of_whole_numbers y ty wy).0)

-- ---- lemmas for functions of `numbers`

-- for `NumbersView::get`
pub ruleset number_at_index_rules = (
  count_of_numbers_in,
  number_in_list_at,
  take_rest,
  slice_get_past,
)

-- for `next` of `NumbersIterator`
pub ruleset next_number_rules = (numbers_in_none, numbers_in_first)

-- for `emit_numbers`
pub ruleset emit_numbers_rules = (length_numbers, numbers_prefix_length, each_number_below)
