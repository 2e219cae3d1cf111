use Rattle.std.proofs.Common.{ℕ, List, arith, inl, inr, ap}
use Rattle.std.specs.Prelude.{slice_index}
use Rattle.sock_diag_lines.specs.AnswerText.{AnswerCodec, HasWritableValue, IsAnswerUnder, ok_text}
use Rattle.sock_diag_lines.specs.Answer.{codec_of_name}
use Rattle.sock_diag_lines.proofs.answers.ok_is_for_writable_values.Goals as goal

value_is_writable : (S : AnswerCodec) (bytes value_text : List ℕ)
    → IsAnswerUnder S bytes (ok_text value_text) → HasWritableValue S bytes
value_is_writable S bytes value_text (inl (value, parses, inl (writable, is))) =
    (value, parses, writable)
value_is_writable S bytes value_text (inl (value, parses, inr (unfit, is))) =
    absurd (omega (arith, ap (λ (text : List ℕ). slice_index text 0) is))
value_is_writable S bytes value_text (inr (e, rejects, is)) =
    absurd (omega (arith, ap (λ (text : List ℕ). slice_index text 0) is))

pub returns : goal.returns
returns c = λ line name bytes value_text request answer. (
  request,
  value_is_writable (codec_of_name name) bytes value_text
      (answer.named name bytes request),
)
