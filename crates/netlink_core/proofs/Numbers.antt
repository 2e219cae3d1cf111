-- A number determines its bytes, in either byte order, and masking a number is masking its bytes.
use Rattle.std.proofs.Common.{◌≡◌, ℕ, zero, suc, ◌+◌, ◌*◌, ◌/◌, ◌%◌, ◌^◌, ◌<◌, ◌≤◌, List, [], ◌∷◌}
use Rattle.std.proofs.Common.{◌++◌, length, take, replicate, slice_index, bit_and, refl, sym, ap}
use Rattle.std.proofs.Common.{ap₂, ◌∙◌, arith}
use Rattle.std.proofs.lemmas.Nat.{and_block, and_mask, and_le_l, same_from_place}
use Rattle.std.proofs.Math.Nat.{mul_comm, div-div-eq-div-mul, pow-suc, mod-lt, mod-eq_of_lt}
use Rattle.std.specs.Int.{byte_at, bytes_low_first, bytes_high_first}
use Rattle.std.specs.Int.Bits.{and_zero_l, and_zero_r}
use Rattle.byteorder.specs.Endian.{little_from, big_from, little_number, big_number}
use Rattle.byteorder.specs.Endian.{little_bytes, big_bytes}
use Rattle.byteorder.specs.Numbers.{little_from-cons, big_from-cons, little_from-take}
use Rattle.byteorder.specs.Numbers.{big_from-take, little_from-lt, big_from-lt}
use Rattle.byteorder.specs.Numbers.{little_number-reads_back, big_number-reads_back}
use Rattle.byteorder.specs.Numbers.{length-bytes_low_first, length-bytes_high_first}
use Rattle.netlink_core.specs.Table.{Field, number, network}
use Rattle.netlink_core.specs.Bytes.{IsBytes}
use Rattle.netlink_core.specs.SignificantBits.{masked}
use Rattle.netlink_core.specs.laws.Byte.{byte_at-lt, IsBytes-number}

-- ---- numbers in either byte order

-- the byte order of a number
pub data Order : Type 0 where
  little_endian big_endian : Order

-- a field of a number in this byte order
abbrev pub field_in : Order → ℕ → ℕ → Field
field_in little_endian = number
field_in big_endian = network

-- the number in the first bytes, in this byte order
abbrev pub number_in : Order → ℕ → List ℕ → ℕ
number_in little_endian width bytes = little_number width bytes
number_in big_endian width bytes = big_number width bytes

-- the `width` bytes of a number, in this byte order
abbrev pub bytes_in : Order → ℕ → ℕ → List ℕ
bytes_in little_endian width n = little_bytes width n
bytes_in big_endian width n = big_bytes width n

-- ---- a number determines its bytes

little-same : (n : ℕ) (xs ys : List ℕ) → IsBytes xs → IsBytes ys → n ≤ length xs → n ≤ length ys
    → little_from 0 n xs ≡ little_from 0 n ys → take n xs ≡ take n ys
little-same (suc n) (x ∷ xs) (y ∷ ys) hx hy lx ly e =
    let sums : x + 256 * little_from 0 n xs ≡ y + 256 * little_from 0 n ys =
    rw (← little_from-cons 0 n x xs, ← little_from-cons 0 n y ys) e in
    grind (arith, hx 0, hy 0, little-same n xs ys (λ i. hx (suc i)) (λ i. hy (suc i)))
little-same n xs ys hx hy lx ly e = grind arith

big-same : (n : ℕ) (xs ys : List ℕ) → IsBytes xs → IsBytes ys → n ≤ length xs → n ≤ length ys
    → big_from 0 n xs ≡ big_from 0 n ys → take n xs ≡ take n ys
big-same (suc n) (x ∷ xs) (y ∷ ys) hx hy lx ly e =
    let sums : x * 256 ^ n + big_from 0 n xs ≡ y * 256 ^ n + big_from 0 n ys =
    rw (← big_from-cons 0 n x xs, ← big_from-cons 0 n y ys) e in
    let parts = same_from_place x (big_from 0 n xs) y (big_from 0 n ys) (256 ^ n)
    (big_from-lt 0 n xs (λ i. hx (suc i))) (big_from-lt 0 n ys (λ i. hy (suc i))) sums in
    grind (arith, big-same n xs ys (λ i. hx (suc i)) (λ i. hy (suc i)))
big-same n xs ys hx hy lx ly e = grind arith

-- bytes are equal if their numbers are
pub number-same : (order : Order) (n : ℕ) (xs ys : List ℕ) → IsBytes xs → IsBytes ys → n ≤ length xs
    → n ≤ length ys → number_in order n xs ≡ number_in order n ys → take n xs ≡ take n ys
number-same order n xs ys hx hy lx ly e =
    grind (arith, little-same, big-same)

-- a number depends on its own bytes only
pub number-take : (order : Order) (n m : ℕ) (xs : List ℕ) → n ≤ m
    → number_in order n (take m xs) ≡ number_in order n xs
number-take order n m xs h =
    grind (arith, little_from-take 0 n m xs, big_from-take 0 n m xs)

-- a number of `n` bytes is below 256^n, and is read from the bytes that it is written as
pub number-fits : (order : Order) (n : ℕ) (xs : List ℕ) → IsBytes xs
    → number_in order n xs < 256 ^ n
number-fits order n xs h =
    grind (arith, little_from-lt 0 n xs h, big_from-lt 0 n xs h)

pub number-reads_back : (order : Order) (n x : ℕ) (rest : List ℕ) → x < 256 ^ n
    → number_in order n (bytes_in order n x ++ rest) ≡ x
number-reads_back order n x rest h =
    grind (arith, little_number-reads_back n x rest h, big_number-reads_back n x rest h)

pub length-bytes_in : (order : Order) (n x : ℕ) → length (bytes_in order n x) ≡ n
length-bytes_in order n x =
    grind (arith, length-bytes_low_first 0 n x, length-bytes_high_first n x)

big-bytes : (n x k : ℕ) → slice_index (bytes_high_first n x) k < 256
big-bytes zero x k = omega arith
big-bytes (suc n) x zero = byte_at-lt n x
big-bytes (suc n) x (suc k) = big-bytes n x k

pub bytes_in-bytes : (order : Order) (n x : ℕ) → IsBytes (bytes_in order n x)
bytes_in-bytes little_endian n x = IsBytes-number 0 n x
bytes_in-bytes big_endian n x = λ k. big-bytes n x k

-- ---- masks on bytes

-- masks of 255 keep all bits
pub masked-all : (n : ℕ) (xs : List ℕ) → IsBytes xs → masked (replicate n 255) xs ≡ take n xs
masked-all (suc n) (x ∷ xs) h =
    let below : x < 2 ^ 8 = h 0 in
    grind (arith, and_mask x 8, mod-eq_of_lt below, masked-all n xs (λ i. h (suc i)))
masked-all n xs h = grind arith

-- masks of 0 keep no bits
pub masked-none : (n : ℕ) (xs : List ℕ) → n ≤ length xs → masked (replicate n 0) xs ≡ replicate n 0
masked-none (suc n) (x ∷ xs) h =
    grind (arith, and_zero_r x, masked-none n xs)
masked-none n xs h = grind arith

pub length-masked : (masks xs : List ℕ) → length masks ≤ length xs
    → length (masked masks xs) ≡ length masks
length-masked (m ∷ masks) (x ∷ xs) h =
    grind (arith, length-masked masks xs)
length-masked masks xs h = grind arith

-- masked bytes are bytes
pub masked-bytes : (masks xs : List ℕ) (k : ℕ) → IsBytes xs → slice_index (masked masks xs) k < 256
masked-bytes (m ∷ masks) (x ∷ xs) zero h = omega (arith, and_le_l x m, h 0)
masked-bytes (m ∷ masks) (x ∷ xs) (suc k) h = masked-bytes masks xs k (λ i. h (suc i))
masked-bytes masks xs k h = grind arith

-- the bytes of a number from the second on are the bytes of the number divided by 256
byte-shift : (i x : ℕ) → byte_at (suc i) x ≡ byte_at i (x / 256)
byte-shift i x =
    grind (arith, pow-suc 256, mul_comm, div-div-eq-div-mul x 256)

bytes-shift : (i n x : ℕ) → bytes_low_first (suc i) n x ≡ bytes_low_first i n (x / 256)
bytes-shift i zero x = refl
bytes-shift i (suc n) x =
    grind (arith, byte-shift i x, bytes-shift (suc i) n x)

-- masking a number is masking its bytes
pub and_number : (n mask : ℕ) (xs : List ℕ) → IsBytes xs → n ≤ length xs
    → bit_and (little_from 0 n xs) mask ≡ little_from 0 n (masked (bytes_low_first 0 n mask) xs)
and_number zero mask xs h l = and_zero_l mask
and_number (suc n) mask [] h l = absurd (omega arith)
and_number (suc n) mask (x ∷ xs) h l =
    let ms = bytes_low_first 0 n (mask / 256) in
    let rest = and_number n (mask / 256) xs (λ i. h (suc i)) (omega arith) in
    let below : x < 2 ^ 8 = h 0 in
    let low : mask % 256 < 2 ^ 8 = mod-lt mask (omega arith) in
    let block : bit_and (little_from 0 n xs * 256 + x) (mask / 256 * 256 + mask % 256)
    ≡ bit_and (little_from 0 n xs) (mask / 256) * 256 + bit_and x (mask % 256) =
    and_block 8 (little_from 0 n xs) (mask / 256) x (mask % 256) below low in
    let number : little_from 0 (suc n) (x ∷ xs) ≡ little_from 0 n xs * 256 + x =
    ap (λ (r : ℕ). x + 256 * r) (little_from-cons 0 n x xs) ∙ omega arith in
    let split : mask ≡ mask / 256 * 256 + mask % 256 = omega arith in
    let shown : little_from 0 (suc n) (bit_and x (mask % 256) ∷ masked (bytes_low_first 1 n mask)
    xs) ≡ bit_and x (mask % 256) + 256 * little_from 0 n (masked ms xs) =
    ap (λ (r : ℕ). bit_and x (mask % 256) + 256 * r)
    (little_from-cons 0 n (bit_and x (mask % 256)) (masked (bytes_low_first 1 n mask) xs))
    ∙ ap (λ (b : List ℕ). bit_and x (mask % 256) + 256 * little_from 0 n (masked b xs))
    (bytes-shift 0 n mask) in
    ap₂ bit_and number split ∙ block ∙ (ap (λ (r : ℕ). r * 256 + bit_and x (mask % 256)) rest
    ∙ omega arith) ∙ sym shown
