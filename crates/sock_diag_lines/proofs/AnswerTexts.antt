-- Bytes have one answer. Equivalent bytes have the same answer, and only they, if the text
-- shows the whole value.
use Rattle.std.proofs.Common.{◌≡◌, ◌⊎◌, ◌∙◌, inl, inr, ℕ, List, codes, refl, subst, sym}
use Rattle.std.proofs.lemmas.List.{append_cancel_left}
use Rattle.netlink_core.specs.Bytes.{IsBytes}
use Rattle.sock_diag_lines.specs.AnswerText.{AnswerCodec, AreEquivalentUnder, HasWritableValue}
use Rattle.sock_diag_lines.specs.AnswerText.{IsAnswerToValue, IsAnswerUnder, ok_text, refused_text}
use Rattle.sock_diag_lines.specs.AnswerText.{unwritable_text}
use Rattle.sock_diag_lines.proofs.SubjectLaws.{AnswerLawsOf, HasFullText}

-- a value has an answer, if it is decidable whether it is writable
pub value_has_answer : {P : Type 0} (value_text : List ℕ) → P ⊎ ¬ P
    → (text : List ℕ) × IsAnswerToValue P value_text text
value_has_answer value_text (inl writable) = (ok_text value_text, inl (writable, refl))
value_has_answer value_text (inr unfit) = (unwritable_text, inr (unfit, refl))

-- a value has at most one answer
pub one_answer_to_value : {P : Type 0} (value_text x y : List ℕ) → IsAnswerToValue P value_text x
    → IsAnswerToValue P value_text y → x ≡ y
one_answer_to_value value_text x y (inl (f, e)) (inl (g, k)) = e ∙ sym k
one_answer_to_value value_text x y (inl (f, e)) (inr (unfit, k)) = absurd (unfit f)
one_answer_to_value value_text x y (inr (unfit, e)) (inl (g, k)) = absurd (unfit g)
one_answer_to_value value_text x y (inr (unfit, e)) (inr (also, k)) = e ∙ sym k

module _ (S : AnswerCodec) (laws : AnswerLawsOf S) where
  -- bytes have one value
  pub bytes_have_one_value : (b : List ℕ) (v w : S.codec.Value) → IsBytes b
      → S.codec.parses b S.param v → S.codec.parses b S.param w → v ≡ w
  bytes_have_one_value b v w h r s = (laws.equal_iff_equivalent b b v w h h r s).1
      ((laws.equal_iff_equivalent b b v v h h r r).0 refl)

  -- bytes have an answer
  pub some_answer : (b : List ℕ) → IsBytes b → (text : List ℕ) × IsAnswerUnder S b text
  some_answer b h = elim (laws.is_total b h) [
    | inl (v, parses) ↦
        let answer = value_has_answer (S.text_of v) (laws.fits_or_not v) in
        (answer.0, inl (v, parses, answer.1))
    | inr (e, rejects) ↦ (refused_text e, inr (e, rejects, refl))
  ]

  -- bytes have at most one answer
  pub same_answer : (b x y : List ℕ) → IsBytes b → IsAnswerUnder S b x → IsAnswerUnder S b y → x ≡ y
  same_answer b x y h (inl (v, r, e)) (inl (w, s, k)) =
      one_answer_to_value (S.text_of v) x y e
      (subst (λ (u : S.codec.Value). IsAnswerToValue (S.codec.is_writable u) (S.text_of u) y)
      (bytes_have_one_value b w v h s r) k)
  same_answer b x y h (inl (v, r, e)) (inr (error, s, k)) =
      absurd (laws.is_exclusive b v error r s)
  same_answer b x y h (inr (error, r, e)) (inl (w, s, k)) =
      absurd (laws.is_exclusive b w error s r)
  same_answer b x y h (inr (error, r, e)) (inr (other, s, k)) =
      rw (e, k, laws.error_is_unique b error other r s)

  -- two inputs with writable values
  module _ (b c x y : List ℕ) (hb : IsBytes b) (hc : IsBytes c) (tells : IsAnswerUnder S b x)
      (also : IsAnswerUnder S c y) (ok : HasWritableValue S b) (ok' : HasWritableValue S c) where
    answer_is_ok_text : x ≡ ok_text (S.text_of ok.0)
    answer_is_ok_text = same_answer b x _ hb tells (inl (ok.0, ok.1, inl (ok.2, refl)))

    other_answer_is_ok_text : y ≡ ok_text (S.text_of ok'.0)
    other_answer_is_ok_text = same_answer c y _ hc also (inl (ok'.0, ok'.1, inl (ok'.2, refl)))

    -- equivalent inputs have the same answer, and only they, if the text shows the whole value
    pub same_text_iff_equivalent : (HasFullText S → x ≡ y → AreEquivalentUnder S b c)
        × (AreEquivalentUnder S b c → x ≡ y)
    same_text_iff_equivalent = let same =
        laws.equal_iff_equivalent b c ok.0 ok'.0 hb hc ok.1 ok'.1 in (
          λ full e. same.0 (full b c ok.0 ok'.0 hb hc ok.1 ok'.1 ok.2 ok'.2
              (append_cancel_left (codes "ok ") _ _
              (sym answer_is_ok_text ∙ e ∙ other_answer_is_ok_text))),
          λ idle. rw (answer_is_ok_text, other_answer_is_ok_text, same.1 idle),
        )
