-- Eight hexadecimal digits are a text.
use Rattle.std.proofs.Common.{◌≡◌, ℕ, Bool, true, List, [], ◌∷◌, IsUtf8, Ok, Err, Result, refl}
use Rattle.std.specs.Prelude.{◌&&◌, IsAscii, IsOk, OnOk, nat_lt}
use Rattle.std.proofs.lemmas.Bool.{and_parts, ltb-true}
use Rattle.std.proofs.lemmas.Str.{IsUtf8-from_ascii}
use Rattle.std.proofs.lemmas.Str.Ascii.{IsAscii-cons, IsAscii-nil}
use Rattle.hex.specs.Hex.{encode_lower, lower_digits}
use Rattle.hex.proofs.HexLemmas.{IsAscii-encode_with}

-- each byte is below 128
abbrev all_small : List ℕ → Bool
all_small [] = true
all_small (b ∷ bs) = nat_lt b 128 && all_small bs

ascii_from_test : (bs : List ℕ) → all_small bs ≡ true → IsAscii bs
ascii_from_test [] h = IsAscii-nil
ascii_from_test (b ∷ bs) h =
    let parts = and_parts (nat_lt b 128) (all_small bs) h in
    IsAscii-cons b bs (ltb-true b 128 parts.0) (ascii_from_test bs parts.1)

lower_digits_are_ascii : IsAscii lower_digits
lower_digits_are_ascii = ascii_from_test lower_digits refl

-- The digits of some bytes are valid UTF-8.
pub digits_are_utf8 : (bytes digits : List ℕ) → digits ≡ encode_lower bytes → IsUtf8 digits
digits_are_utf8 bytes digits is =
    rw is (IsUtf8-from_ascii (encode_lower bytes) (IsAscii-encode_with lower_digits bytes
    lower_digits_are_ascii))

-- A clause about a success holds if the result is `Ok`.
pub written_if_ok : {A E : Type 0} (r : Result A E) (P : Type 0) → IsOk r → OnOk r P → P
written_if_ok (Ok x) P is h = h
written_if_ok (Err e) P is h = absurd cc
