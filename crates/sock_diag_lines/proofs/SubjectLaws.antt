-- The laws of a subject.
use Rattle.std.proofs.Common.{◌≡◌, ◌↔◌, ◌⊎◌, ℕ, List}
use Rattle.netlink_core.specs.Bytes.{IsBytes}
use Rattle.netlink_core.specs.declared.error.DecodeError.{DecodeError}
use Rattle.sock_diag_lines.specs.AnswerText.{AnswerCodec}

-- the laws of how bytes are parsed
pub record AnswerLaws {Value : Type 0} (parses : List ℕ → Value → Type 0)
    (rejects : List ℕ → DecodeError → Type 0) (fits : Value → Type 0)
    (idle : List ℕ → List ℕ → Type 0) : Type 0 where
  -- bytes have a value or an error, not both, and one error at most
  pub is_total : (b : List ℕ) → IsBytes b → ((v : Value) × parses b v)
      ⊎ ((e : DecodeError) × rejects b e)
  pub is_exclusive : (b : List ℕ) (v : Value) (e : DecodeError) → parses b v → rejects b e → ⊥
  pub error_is_unique : (b : List ℕ) (e f : DecodeError) → rejects b e → rejects b f → e ≡ f
  -- two accepted inputs have equal values if and only if they are equivalent
  pub equal_iff_equivalent : (b c : List ℕ) (v w : Value) → IsBytes b → IsBytes c → parses b v
      → parses c w
      → ((v ≡ w) ↔ idle b c)
  -- it is decidable whether a value is writable
  pub fits_or_not : (v : Value) → fits v ⊎ ¬ fits v

abbrev pub AnswerLawsOf : AnswerCodec → Type 0
AnswerLawsOf S =
    AnswerLaws (λ b v. S.codec.parses b S.param v) (λ b e. S.codec.rejects b S.param e)
    S.codec.is_writable (S.codec.equivalent S.param)

-- the text shows the whole value: writable values with equal texts are equal
abbrev pub HasFullText : AnswerCodec → Type 0
HasFullText S = (b c : List ℕ) (v w : S.codec.Value) → IsBytes b → IsBytes c
    → S.codec.parses b S.param v → S.codec.parses c S.param w
    → S.codec.is_writable v → S.codec.is_writable w → S.text_of v ≡ S.text_of w
    → v ≡ w
