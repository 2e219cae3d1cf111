-- The answer to bytes: the text of their value, `unwritable`, or their first error.
use Rattle.std.specs.Prelude.{◌≡◌, ◌⊎◌, ℕ, List, ◌++◌, codes, decimal}
use Rattle.sock_diag_lines.specs.HexField.{hex_field_of}
use Rattle.netlink_core.specs.Codec.{Codec}
use Rattle.netlink_core.specs.Errors.{error_code}
use Rattle.netlink_core.specs.declared.error.DecodeError.{DecodeError}

-- the answer if the value is writable: `ok ` and the text of the value
abbrev pub ok_text : List ℕ → List ℕ
ok_text value_text = codes "ok " ++ value_text

-- the answer if the value is not writable
abbrev pub unwritable_text : List ℕ
unwritable_text = codes "unwritable"

-- the answer if the bytes are rejected: `refused ` and the code of the error in decimal
abbrev pub refused_text : DecodeError → List ℕ
refused_text error = codes "refused " ++ decimal (error_code error)

-- `IsAnswerToValue is_writable value_text text`: the text answers bytes that parse as a value:
-- `ok ` and the text of the value if the value is writable, else `unwritable`
abbrev pub IsAnswerToValue : Type 0 → List ℕ → List ℕ → Type 0
IsAnswerToValue is_writable value_text text =
    (is_writable × (text ≡ ok_text value_text)) ⊎ ((¬ is_writable) × (text ≡ unwritable_text))

-- How bytes are parsed and shown: a codec, and the text of a value.
pub record AnswerCodec : Type 1 where
  -- the codec of the bytes, the type of its parameter, and the parameter
  pub Param : Type 0
  pub codec : Codec Param
  pub param : Param
  -- the text of a value in an answer
  pub text_of : codec.Value → List ℕ

-- `codec_with_text codec param text_of`: the codec with this parameter; a value is shown by
-- `text_of`
abbrev pub codec_with_text : {Param : Type 0} (codec : Codec Param) → Param
    → (codec.Value → List ℕ) → AnswerCodec
codec_with_text {Param} codec param text_of =
    record { Param = Param; codec = codec; param = param; text_of = text_of }

-- `answer_codec codec param`: the codec with this parameter; a value is shown as the hex field of
-- the bytes that it serializes to
abbrev pub answer_codec : {Param : Type 0} → Codec Param → Param → AnswerCodec
answer_codec codec param =
    codec_with_text codec param (λ value. hex_field_of (codec.serialized value))

-- `IsAnswerUnder answers bytes text`: the text answers the bytes, which are parsed and shown as
-- `answers` says: it answers their value, or it is `refused ` and the code of their first error
abbrev pub IsAnswerUnder : AnswerCodec → List ℕ → List ℕ → Type 0
IsAnswerUnder answers bytes text =
    ((value : answers.codec.Value) × answers.codec.parses bytes answers.param value
    × IsAnswerToValue (answers.codec.is_writable value) (answers.text_of value) text)
    ⊎ ((e : DecodeError) × answers.codec.rejects bytes answers.param e × (text ≡ refused_text e))

-- `HasWritableValue answers bytes`: the bytes parse as a writable value by the codec of `answers`
abbrev pub HasWritableValue : AnswerCodec → List ℕ → Type 0
HasWritableValue answers bytes = (value : answers.codec.Value)
    × answers.codec.parses bytes answers.param value × answers.codec.is_writable value

-- `AreEquivalentUnder answers bytes bytes'`: the two inputs are equivalent by the codec of
-- `answers`: they differ only in ignored bits
abbrev pub AreEquivalentUnder : AnswerCodec → List ℕ → List ℕ → Type 0
AreEquivalentUnder answers bytes bytes' = answers.codec.equivalent answers.param bytes bytes'
