-- The bytes that are written for a reply are the canonical form of all equivalent replies.
use Rattle.std.proofs.Common.{◌≡◌, ℕ, inl, inr, List, refl}
use Rattle.std.proofs.Common.{arith, take}
use Rattle.std.specs.Prelude.{◌↔◌}
use Rattle.std.proofs.lemmas.List.{take_at}
use Rattle.netlink_core.specs.Bytes.{IsBytes}
use Rattle.netlink_core.specs.Codec.{Codec, KeepsCodecLaws}
use Rattle.netlink_core.specs.Response.{ResponseSpec, ReplyValue, response_bytes, response_codec}
use Rattle.sockdiag_c.specs.Rewriting.{IsCanonicalForm, WritesValue}

module _ {Param : Type 0} (C : Codec Param) (laws : KeepsCodecLaws C) where
  -- an accepted input has one value
  accepted_input_has_one_value : (b : List ℕ) (p : Param) (v w : C.Value) → IsBytes b
      → C.parses b p v → C.parses b p w
      → v ≡ w
  accepted_input_has_one_value b p v w tb r s =
      (laws.equal_iff_equivalent b b p v w tb tb r s).1
      ((laws.equal_iff_equivalent b b p v v tb tb r r).0 refl)

  -- two accepted inputs with writable values serialize to the same bytes if and only if they are
  -- equivalent
  equal_bytes_iff_equivalent : (b c : List ℕ) (p : Param) (v w : C.Value) → IsBytes b → IsBytes c
      → C.parses b p v
      → C.parses c p w → C.is_writable v → C.is_writable w
      → ((C.serialized v ≡ C.serialized w) ↔ C.equivalent p b c)
  equal_bytes_iff_equivalent b c p v w tb tc r s fv fw =
      grind (arith, accepted_input_has_one_value)

-- the bytes that are written for the value of a reply are its canonical form
pub written_is_canonical : (R : ResponseSpec) → KeepsCodecLaws (response_codec R)
    → (payload old new : List ℕ) (v : ReplyValue R) (written answer : ℕ)
    → IsBytes payload
    → (response_codec R).parses payload tt v
    → WritesValue ((response_codec R).is_writable v) (response_bytes R v)
    (record { old = old; new = new; written = written; returned = answer })
    → answer ≡ 0 → IsCanonicalForm R payload (take written new)
written_is_canonical R laws payload old new v written answer tb r (inl h) ok d w td s fw =
    grind (arith, take_at, equal_bytes_iff_equivalent (response_codec R) laws payload d)
written_is_canonical R laws payload old new v written answer tb r (inr (inl h)) ok d w td s
    fw = absurd (omega (arith, h.2.0, ok))
written_is_canonical R laws payload old new v written answer tb r (inr (inr h)) ok d w td s
    fw = absurd (omega (arith, h.1.0, ok))
