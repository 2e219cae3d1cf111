-- Texts of errors. Texts are lists of bytes.
use Rattle.std.specs.Prelude.{ℕ, List, ◌++◌, codes, decimal}
use Rattle.byteorder.specs.Endian.{big_bytes}
use Rattle.hex.specs.Hex.{encode_lower}
use Rattle.program_streams.specs.declared.lines.RunError.{RunError}
use Rattle.program_streams.specs.declared.lines.RunError.TheVariants.{Read as ReadFailed}
use Rattle.program_streams.specs.declared.lines.RunError.TheVariants.{Write as WriteFailed}
use Rattle.program_streams.specs.declared.lines.RunError.TheVariants.{Memory as OutOfMemory}
use Rattle.program_streams.specs.declared.error_text.ErrorText.{ErrorText}
use Rattle.program_streams.specs.declared.error_text.ErrorText.TheVariants.{Plain, Decimal, Hex}

-- `error_text_bytes text`: the bytes of the text, which its parts are joined to. The number of a
-- `Decimal` is written in decimal, and that of a `Hex` in eight hexadecimal digits.
abbrev pub error_text_bytes : ErrorText → List ℕ
error_text_bytes (Plain text) = text.now
error_text_bytes (Decimal before number after) = before.now ++ decimal number ++ after.now
error_text_bytes (Hex before number) = before.now ++ encode_lower (big_bytes 4 number)

-- `run_error_text error`: the text of the reason why a run over lines ended
abbrev pub run_error_text : RunError → List ℕ
run_error_text ReadFailed = codes "reading failed"
run_error_text WriteFailed = codes "writing failed"
run_error_text OutOfMemory = codes "out of memory"
