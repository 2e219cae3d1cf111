-- Numbers and bytes that were read from consecutive positions are the numbers of the table's
-- fields, and bytes fit fields of bytes.
use Rattle.std.proofs.Common.{◌≡◌, ℕ, zero, suc, ◌+◌, ◌-◌, ◌*◌, ◌<◌, ◌≤◌, List, [], ◌∷◌, ◌++◌}
use Rattle.std.proofs.Common.{length, take, drop, slice_index, refl, sym, ap, ◌∙◌, arith}
use Rattle.std.proofs.Common.{mul-le-mul_left, mul-suc}
use Rattle.std.specs.List.{AllByRecursion}
use Rattle.std.proofs.lemmas.List.{ext_get_or, drop-take, drop-drop, drop_more}
use Rattle.byteorder.specs.Endian.{IsRead}
use Rattle.netlink_core.specs.Bytes.{IsBytes}
use Rattle.netlink_core.specs.Table.{Field, unread}
use Rattle.netlink_core.specs.Table.{bytes_at, array, values_of, first_numbers, FitFields}
use Rattle.netlink_core.proofs.Numbers.{Order, field_in, number_in, number-take}
use Rattle.netlink_core.proofs.TableLaws.{AreBytes-drop}

length-field : (order : Order) (width offset count : ℕ) (bytes : List ℕ)
    → length (values_of (array (field_in order) offset width count) bytes) ≡ count
length-field order width offset zero bytes = refl
length-field order width offset (suc count) bytes =
    grind (arith, length-field order width (offset + width) count bytes)

field-at : (order : Order) (width offset count : ℕ) (bytes : List ℕ) (k : ℕ) → k < count
    → slice_index (values_of (array (field_in order) offset width count) bytes) k
    ≡ number_in order width
    (drop (offset + width * k) bytes)
field-at order width offset (suc count) bytes (suc k) h =
    grind (arith, field-at order width (offset + width) count bytes k, mul-suc width k)
field-at order width offset count bytes k h = grind arith

-- a number inside of a part of the bytes is the number at this position of all bytes
inside : (order : Order) (width offset size from : ℕ) (bytes : List ℕ) → from + width ≤ size
    → number_in order width (drop from (take size (drop offset bytes))) ≡ number_in order width
    (drop (offset + from) bytes)
inside order width offset size from bytes h =
    let parts : size ≡ from + (size - from) = omega arith in
    let room : width ≤ size - from = omega arith in
    rw (parts, drop-take, number-take order width (size - from), drop-drop) refl

-- numbers that were read from consecutive positions are the numbers of an array of fields
pub fields_read : (order : Order) (width offset count : ℕ) (bytes source field : List ℕ)
    → length field ≡ count → source ≡ take (width * count) (drop offset bytes)
    → IsRead (number_in order) width source field
    → field ≡ values_of (array (field_in order) offset width count)
    bytes
fields_read order width offset count bytes source field l s r =
    ext_get_or 0 field (values_of (array (field_in order) offset width count) bytes)
    (l ∙ sym (length-field order width offset count bytes)) (λ k h.
    let below : k < count = omega arith in
    let reach : width * (k + 1) ≤ width * count = mul-le-mul_left width (omega arith) in
    let room : width * k + width ≤ width * count = let step = mul-suc width k in omega arith in
    r k h
    ∙ ap (λ (b : List ℕ). number_in order width (drop (width * k) b)) s
    ∙ inside order width offset (width * count) (width * k) bytes room
    ∙ sym (field-at order width offset count bytes k below))

-- ---- arrays of bytes

-- bytes that were copied are the numbers of an array of byte fields
pub bytes_read : (offset count : ℕ) (bytes : List ℕ) → offset + count ≤ length bytes
    → take count (drop offset bytes) ≡ values_of (bytes_at offset count) bytes
bytes_read offset zero bytes h = refl
bytes_read offset (suc count) bytes h =
    grind (arith, drop_more bytes offset 0, bytes_read (offset + 1) count bytes)

-- ---- numbers fit their fields

pub fit-append : (fields more : List Field) (values others : List ℕ) → FitFields fields values
    → FitFields more others
    → FitFields (fields ++ more) (values ++ others)
fit-append [] more [] others f g = g
fit-append (unread offset written ∷ fields) more values others f g =
    fit-append fields more values others f g
fit-append (field ∷ fields) more (value ∷ values) others f g =
    grind (arith, fit-append fields more values others)
fit-append fields more values others f g = grind arith

-- the first `count` bytes fit an array of byte fields
pub fit-bytes : (offset count : ℕ) (bytes : List ℕ) → IsBytes bytes
    → FitFields (bytes_at offset count) (first_numbers count bytes)
fit-bytes offset zero bytes in_range = tt
fit-bytes offset (suc count) bytes in_range =
    grind (arith, fit-bytes (offset + 1) count (drop 1 bytes) (AreBytes-drop 1 bytes in_range))

-- a bound on the number at each index is a bound on each number
pub each_number_below : (bound : ℕ) (xs : List ℕ) → ((i : ℕ) → slice_index xs i < bound)
    → AllByRecursion (λ n. n < bound) xs
each_number_below bound [] below = tt
each_number_below bound (x ∷ xs) below = (below 0, each_number_below bound xs (λ i. below (suc i)))

-- ---- arrays

-- the first `n` elements of a list of length `n` are the list
pub first_numbers_are_all : (n : ℕ) (xs : List ℕ) → length xs ≡ n → first_numbers n xs ≡ xs
first_numbers_are_all zero [] l = refl
first_numbers_are_all (suc n) (x ∷ xs) l =
    grind (arith, first_numbers_are_all n xs)
first_numbers_are_all n xs l = absurd (omega arith)
