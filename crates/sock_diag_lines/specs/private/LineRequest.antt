-- The request in a line, and its answer.
use Rattle.std.specs.Prelude.{◌≡◌, ℕ, List}
use Rattle.sock_diag_lines.specs.Answer.{IsBadLine, IsRequest, bad_line_text, codec_of_name}
use Rattle.sock_diag_lines.specs.DumpLine.{IsDumpRequest}
use Rattle.sock_diag_lines.specs.private.ReadDump.{AnswersDump, IsReadDump}
use Rattle.sock_diag_lines.specs.AnswerText.{IsAnswerUnder}
use Rattle.sock_diag_lines.specs.declared.answers.LineRequest.{LineRequest}
use Rattle.sock_diag_lines.specs.declared.answers.LineRequest.TheVariants.{Field, Dump, Nothing}

-- `IsParsedAs line request bytes`: the line has this request. It is the name of the request and the
-- hex field of the bytes; or a dump, whose datagrams were read; or neither (`Nothing`). `bytes`
-- matters only for a name.
abbrev pub IsParsedAs : List ℕ → LineRequest → List ℕ → Type 0
IsParsedAs line (Field name) bytes = IsRequest line name bytes
IsParsedAs line (Dump dump) bytes = (datagrams : List (List ℕ)) × IsDumpRequest line datagrams
    × IsReadDump datagrams dump
IsParsedAs line Nothing bytes = IsBadLine line

-- `IsAnswerTo request bytes text`: the text answers the request. `bytes` are the bytes of the hex
-- field, which matter only for a name.
abbrev pub IsAnswerTo : LineRequest → List ℕ → List ℕ → Type 0
IsAnswerTo (Field name) bytes text = IsAnswerUnder (codec_of_name name) bytes text
IsAnswerTo (Dump dump) bytes text = AnswersDump dump text
IsAnswerTo Nothing bytes text = text ≡ bad_line_text
