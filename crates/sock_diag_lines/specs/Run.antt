-- What a run of `sockdiag` has read and written.
use Rattle.std.specs.Prelude.{◌&&◌, if◌then◌else◌, not, Bool, IfSome, List, Option, Result, Ok, Err}
use Rattle.std.specs.Prelude.{ℕ}
use Rattle.std.specs.Io.KnownBytes.{Appends}
use Rattle.program_streams.specs.LineRun.{AnswersEachLine, AnswersInput, RunStreams, answer_lines}
use Rattle.program_streams.specs.Lines.{SplitsIntoLines, all_lines}
use Rattle.program_streams.specs.declared.lines.RunError.{RunError}
use Rattle.sock_diag_lines.specs.Answer.{IsAnswerOf, is_good}

-- `WritesAllAnswers left held held'`: if the bytes that were left to read before the run (`left`)
-- are known, the answers to all their lines were written, each followed by a line feed. `held` and
-- `held'` are the bytes that had been written before and after the run, if they are known. In the
-- definition, `answer` has the answer to each line, `whole` are the complete lines of the bytes,
-- and `rest` is what follows the last line feed. The premises hold for exactly one choice of the
-- three.
abbrev pub WritesAllAnswers : Option (List ℕ) → Option (List ℕ) → Option (List ℕ) → Type 0
WritesAllAnswers left held held' = IfSome left (λ text.
    (answer : List ℕ → List ℕ) (whole : List (List ℕ)) (rest : List ℕ)
    → AnswersEachLine IsAnswerOf answer → SplitsIntoLines text whole rest
    → Appends held held' (answer_lines answer (all_lines whole rest)))

-- `exit_status_of is_strict outcome`: the exit status of a run: 1 if it failed, 3 if it is strict
-- and an answer is not good, else 0
abbrev pub exit_status_of : Bool → Result Bool RunError → ℕ
exit_status_of is_strict (Ok all_good) = if is_strict && not all_good then 3 else 0
exit_status_of is_strict (Err error) = 1

-- `RunEnds streams outcome`: what a run with this outcome has read and written (`AnswersInput`). It
-- has written the answers to all lines if it succeeded, to the complete lines if a read failed, to
-- some first ones of these if memory ran out, and a prefix of all answers if a write failed. If it
-- succeeded, the outcome is whether each answer is good (`is_good`). `answer` has the answer to
-- each line: there is exactly one such function (`each_line_has_one_answer`).
abbrev pub RunEnds : RunStreams → Result Bool RunError → Type 0
RunEnds streams outcome = (answer : List ℕ → List ℕ)
    → AnswersEachLine IsAnswerOf answer → AnswersInput answer streams is_good outcome
