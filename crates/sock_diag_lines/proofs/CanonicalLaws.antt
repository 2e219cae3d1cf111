-- Texts under a codec that has the codec laws: the canonical form shows the whole value.
use Rattle.std.proofs.Common.{◌≡◌, ◌⊎◌, ℕ, List, refl}
use Rattle.netlink_core.specs.Bytes.{IsBytes}
use Rattle.netlink_core.specs.Codec.{Codec, KeepsCodecLaws}
use Rattle.sock_diag_lines.proofs.FieldLaws.{hex_field_of-same}
use Rattle.sock_diag_lines.specs.AnswerText.{answer_codec}
use Rattle.sock_diag_lines.proofs.SubjectLaws.{HasFullText, AnswerLaws}

module _ {Param : Type 0} (C : Codec Param) (laws : KeepsCodecLaws C) (param : Param) where
  -- parsed values that serialize to the same bytes are equal
  pub equal_by_serialized : (b c : List ℕ) (v w : C.Value) → IsBytes b → IsBytes c
      → C.parses b param v
      → C.parses c param w → C.is_writable v → C.is_writable w → C.serialized v ≡ C.serialized w
      → v ≡ w
  equal_by_serialized b c v w hb hc r s f g e =
      let n = laws.parsed_is_normal b param v hb r in
      let m = laws.parsed_is_normal c param w hc s in
      let back = rw e at (laws.round_trips param v n.0 n.1 f) in
      let h = laws.serialized_in_range w m.0 in
      (laws.equal_iff_equivalent _ _ param v w h h back (laws.round_trips param w m.0 m.1 g)).1
      ((laws.equal_iff_equivalent _ _ param v v h h back back).0 refl)

  -- the subject laws of a codec that has the codec laws
  pub subject_laws_of_codec : (fits : C.Value → Type 0) → ((v : C.Value) → fits v ⊎ ¬ fits v)
      → AnswerLaws (λ b v. C.parses b param v) (λ b e. C.rejects b param e) fits
      (C.equivalent param)
  subject_laws_of_codec fits fits_or_not = record {
    is_total = λ b h. laws.is_total b param h;
    is_exclusive = λ b v e. laws.is_exclusive b param v e;
    error_is_unique = λ b e f. laws.error_is_unique b param e f;
    equal_iff_equivalent = λ b c v w. laws.equal_iff_equivalent b c param v w;
    fits_or_not = fits_or_not;
  }

  -- the canonical form shows the whole value
  pub canonical_has_full_text : HasFullText (answer_codec C param)
  canonical_has_full_text b c v w hb hc r s f g e = equal_by_serialized b c v w hb hc r s f g
      (hex_field_of-same (C.serialized v) (C.serialized w)
      (laws.serialized_in_range v (laws.parsed_is_normal b param v hb r).0)
      (laws.serialized_in_range w (laws.parsed_is_normal c param w hc s).0) e)
