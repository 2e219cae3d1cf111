-- The codec laws of a text as the value of an attribute.
use Rattle.std.proofs.Common.{Ok, ◌≡◌, ◌↔◌, inl, inr, ℕ, List, [], ◌∷◌, ◌++◌, length, ap, sym}
use Rattle.std.proofs.Common.{subst, arith}
use Rattle.std.specs.Prelude.{IsUtf8}
use Rattle.std.proofs.lemmas.List.{length-append}
use Rattle.std.proofs.lemmas.Str.{IsUtf8-from_is_utf8}
use Rattle.netlink_core.specs.Bytes.{IsBytes}
use Rattle.netlink_core.specs.laws.Byte.{IsBytes-append, IsBytes-cons, IsBytes-left, IsBytes-nil}
use Rattle.netlink_core.specs.Parse.{without_terminating_nul, parse_text}
use Rattle.netlink_core.specs.Codec.{KeepsCodecLaws, as_codec}
use Rattle.netlink_core.specs.laws.Prefix.{value_or_error}
use Rattle.netlink_core.proofs.Texts.{terminating_nul_is_removed, unchanged_or_terminated}
use Rattle.netlink_core.proofs.Texts.{valid_utf8_is_text}
use Rattle.sock_diag_attributes.specs.Text.{text_value}

-- bytes do not end in a zero byte if and only if removing a terminating NUL changes nothing
has_no_terminating_nul : (s : List ℕ) → ¬ ((front : List ℕ) × (s ≡ front ++ 0 ∷ []))
    ↔ (without_terminating_nul s ≡ s)
has_no_terminating_nul s = (
  λ none. elim (unchanged_or_terminated s) [ inl e ↦ absurd (none (_, e)) | inr e ↦ e ],
  λ e ends.
      let front : ends.0 ≡ s = cc (terminating_nul_is_removed ends.0) in
      omega (arith, ap length front, ap length ends.1, length-append ends.0 (0 ∷ [])),
)

-- two values have equal texts if and only if they are equivalent
equal_texts_iff_equivalent : (b c : List ℕ)
    → (without_terminating_nul b ≡ without_terminating_nul c)
    ↔ text_value.equivalent tt b c
equal_texts_iff_equivalent b c =
    grind (
      arith,
      unchanged_or_terminated b,
      unchanged_or_terminated c,
      has_no_terminating_nul b,
      has_no_terminating_nul c,
      terminating_nul_is_removed b,
      terminating_nul_is_removed c,
    )

-- a parsed text is the value without a terminating NUL, and is UTF-8
text_is : (b v : List ℕ) → parse_text b ≡ Ok v
    → (without_terminating_nul b ≡ v) × IsUtf8 (without_terminating_nul b)
text_is b v h =
    grind (arith, IsUtf8-from_is_utf8)

-- bytes without their terminating NUL are bytes
text_bytes_in_range : (b : List ℕ) → IsBytes b → IsBytes (without_terminating_nul b)
text_bytes_in_range b in_range =
    elim (unchanged_or_terminated b) [
      | inl e ↦ IsBytes-left (without_terminating_nul b) (0 ∷ []) (subst IsBytes e in_range)
      | inr e ↦ rw e in_range
    ]

-- a text satisfies the codec laws
pub text_value_laws : KeepsCodecLaws (as_codec text_value)
text_value_laws = record {
  is_total = λ b p in_range. value_or_error (parse_text b);
  is_exclusive = λ b p v e h k. cc;
  error_is_unique = λ b p e f h k. cc;
  error_is_not_memory = λ b p h. grind arith;
  equal_iff_equivalent = λ b c p v w b-in_range c-in_range h k.
      rw (← (text_is b v h).0, ← (text_is c w k).0) (equal_texts_iff_equivalent b c);
  parsed_is_normal = λ b p v in_range h.
      let read = text_is b v h in
      (rw (← read.0) (read.1, text_bytes_in_range b in_range), tt);
  serialized_in_range = λ v in_range. IsBytes-append v (0 ∷ []) in_range.1
      (IsBytes-cons 0 [] (omega arith) IsBytes-nil);
  round_trips = λ p v in_range normal room. valid_utf8_is_text (v ++ 0 ∷ []) v
      (sym (terminating_nul_is_removed v))
      (rw terminating_nul_is_removed in_range.0);
}
