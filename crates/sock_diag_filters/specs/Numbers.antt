-- Numbers in a text.
use Rattle.std.specs.Prelude.{ℕ, ◌+◌, ◌-◌, ◌*◌, ◌==◌, ◌&&◌, ◌||◌, nat_eq, nat_le, nat_lt}
use Rattle.std.specs.Prelude.{if◌then◌else◌, List, [], ◌∷◌, codes, drop, length, Option, None, Some}
use Rattle.std.specs.Prelude.{option_and_then}
use Rattle.std.specs.List.{position_from, starts_with}

-- `index_of byte text`: the index of the first byte of the text that is equal to `byte`, or `None`
-- if there is none.
abbrev pub index_of : (byte : ℕ) → List ℕ → Option ℕ
index_of byte text = position_from (λ other. other == byte) 0 text

-- The value of a digit, which is a byte: from 0 for `0` (48) to 9, and 10 for `a` (97) and `A` (65)
-- to 15. It is 16 for any other byte.
abbrev pub digit_value : ℕ → ℕ
digit_value digit =
    if nat_le 48 digit && nat_le digit 57 then digit - 48
    else if nat_le 97 digit && nat_le digit 102 then digit - 97 + 10
    else if nat_le 65 digit && nat_le digit 70 then digit - 65 + 10
    else 16

-- `with_digit radix most number digit`: the number with one more digit. `None` if the byte is not a
-- digit of this radix, or if the result is greater than `most`.
abbrev pub with_digit : (radix most number digit : ℕ) → Option ℕ
with_digit radix most number digit =
    if nat_le radix (digit_value digit) || nat_lt most (number * radix + digit_value digit)
    then None else Some (number * radix + digit_value digit)

-- `with_digits radix most number digits`: the number with these further digits.
abbrev pub with_digits : (radix most number : ℕ) → List ℕ → Option ℕ
with_digits radix most number [] = Some number
with_digits radix most number (digit ∷ later) =
    option_and_then (λ longer. with_digits radix most longer later)
    (with_digit radix most number digit)

-- `digits_in radix most digits`: the number with these digits, at least one.
abbrev pub digits_in : (radix most : ℕ) → List ℕ → Option ℕ
digits_in radix most digits =
    if length digits == 0 then None else with_digits radix most 0 digits

-- `number_in most text`: the number in the text, which is at most `most`: in hexadecimal after
-- `0x`, or in decimal without a zero before other digits. `None` for any other text.
abbrev pub number_in : (most : ℕ) → List ℕ → Option ℕ
number_in most text =
    if starts_with nat_eq text (codes "0x") then digits_in 16 most (drop 2 text)
    else if nat_lt 1 (length text) && starts_with nat_eq text (codes "0") then None
    else digits_in 10 most text
