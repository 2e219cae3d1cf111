-- The codec laws of a boolean in one byte.
use Rattle.std.proofs.Common.{◌≡◌, ◌↔◌, ℕ, [], slice_index, arith}
use Rattle.std.specs.Prelude.{not, ◌==◌}
use Rattle.netlink_core.specs.laws.Byte.{IsBytes-cons, IsBytes-nil}
use Rattle.netlink_core.specs.Codec.{KeepsCodecLaws, as_codec}
use Rattle.netlink_core.specs.laws.Prefix.{value_or_error}
use Rattle.sock_diag_attributes.specs.Flag.{flag_value}

-- two bytes are the same boolean if and only if both are zero or neither is zero
truth_decides : (m n : ℕ) → (not (m == 0) ≡ not (n == 0)) ↔ ((m ≡ 0) ↔ (n ≡ 0))
truth_decides m n = (λ e. (λ z. grind arith, λ z. grind arith), λ h. grind arith)

-- a flag satisfies the codec laws
pub flag_laws : (k : ℕ) → KeepsCodecLaws (as_codec (flag_value k))
flag_laws k = record {
  is_total = λ b p in_range. value_or_error ((flag_value k).parses tt b);
  is_exclusive = λ b p v e h g. cc;
  error_is_unique = λ b p e f h g. cc;
  error_is_not_memory = λ b p h. grind arith;
  equal_iff_equivalent = λ b c p v w b-in_range c-in_range h g.
      let left : not (slice_index b 0 == 0) ≡ v = grind (arith, h) in
      let right : not (slice_index c 0 == 0) ≡ w = grind (arith, g) in
      rw (← left, ← right) (truth_decides (slice_index b 0) (slice_index c 0));
  parsed_is_normal = λ b p v in_range h. (tt, tt);
  serialized_in_range = λ v in_range. IsBytes-cons _ [] (grind arith) IsBytes-nil;
  round_trips = λ p v in_range normal room. grind arith;
}
