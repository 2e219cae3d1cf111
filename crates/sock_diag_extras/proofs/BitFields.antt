-- Bit fields by their shifts and masks.
use Rattle.std.proofs.Common.{◌≡◌, ℕ, ◌/◌, ◌^◌, ◌-◌, refl, ap}
use Rattle.std.specs.Prelude.{bit_and, Option, None, Some, option_map}
use Rattle.std.proofs.lemmas.Nat.{and_mask}
use Rattle.sock_diag_extras.specs.Spans.{bits_of, shift_and_mask}

-- the bits of a number by the shift and the mask of a bit field are its value
pub bits_by_mask : (bits : Option (ℕ × ℕ)) (shift mask number : ℕ)
    → Some (shift, mask) ≡ option_map shift_and_mask bits
    → bit_and (number / 2 ^ shift) mask ≡ bits_of bits number
bits_by_mask None shift mask number is = absurd cc
bits_by_mask (Some (lowest, count)) shift mask number is =
    let same : ◌≡◌ {A = ℕ × ℕ} (shift, mask) (lowest, 2 ^ count - 1) = cc is in
    rw (ap (λ (both : ℕ × ℕ). both.0) same, ap (λ (both : ℕ × ℕ). both.1) same)
    (and_mask (number / 2 ^ lowest) count)

-- without a shift and a mask the value is the whole number
pub whole_number : (bits : Option (ℕ × ℕ)) (number : ℕ) → None ≡ option_map shift_and_mask bits
    → number ≡ bits_of bits number
whole_number None number is = refl
whole_number (Some (lowest, count)) number is = absurd cc
