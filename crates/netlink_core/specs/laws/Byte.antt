-- Lists of bytes, and their parts.
use Rattle.std.proofs.Common.{ℕ, zero, suc, ◌<◌, List, [], ◌∷◌, ◌++◌, replicate, arith}
use Rattle.std.specs.Int.{bytes_low_first, byte_at}
use Rattle.netlink_core.specs.Bytes.{IsBytes}

pub IsBytes-nil : IsBytes []
IsBytes-nil i = omega arith

pub IsBytes-cons : (x : ℕ) (xs : List ℕ) → x < 256 → IsBytes xs → IsBytes (x ∷ xs)
IsBytes-cons x xs hx h k =
    grind arith

pub IsBytes-append : (xs ys : List ℕ) → IsBytes xs → IsBytes ys → IsBytes (xs ++ ys)
IsBytes-append [] ys hx hy = hy
IsBytes-append (x ∷ xs) ys hx hy =
    IsBytes-cons x _ (hx 0) (IsBytes-append xs ys (λ i. hx (suc i)) hy)

pub IsBytes-left : (xs ys : List ℕ) → IsBytes (xs ++ ys) → IsBytes xs
IsBytes-left [] ys h = IsBytes-nil
IsBytes-left (x ∷ xs) ys h = IsBytes-cons x xs (h 0) (IsBytes-left xs ys (λ i. h (suc i)))

pub IsBytes-right : (xs ys : List ℕ) → IsBytes (xs ++ ys) → IsBytes ys
IsBytes-right [] ys h = h
IsBytes-right (x ∷ xs) ys h = IsBytes-right xs ys (λ i. h (suc i))

pub byte_at-lt : (k x : ℕ) → byte_at k x < 256
byte_at-lt k x = grind arith

pub IsBytes-number : (i n x : ℕ) → IsBytes (bytes_low_first i n x)
IsBytes-number i zero x = IsBytes-nil
IsBytes-number i (suc n) x = IsBytes-cons _ _ (byte_at-lt i x) (IsBytes-number (suc i) n x)

pub IsBytes-zeros : (n : ℕ) → IsBytes (replicate n 0)
IsBytes-zeros zero = IsBytes-nil
IsBytes-zeros (suc n) = IsBytes-cons 0 (replicate n 0) (omega arith) (IsBytes-zeros n)
