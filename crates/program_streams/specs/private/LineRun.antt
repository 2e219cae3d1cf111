-- What the steps of a run have written and answered.
use Rattle.std.specs.Prelude.{◌≡◌, ℕ, Bool, false, List, ◌++◌, Option, Result, Ok}
use Rattle.std.specs.Prelude.{Err}
use Rattle.std.specs.List.{All, list_all}
use Rattle.std.specs.Io.KnownBytes.{Appends, Keeps}
use Rattle.program_streams.specs.Lines.{SplitsIntoLines, is_line_feed}
use Rattle.program_streams.specs.LineRun.{answer_lines}
use Rattle.program_streams.specs.declared.lines.LineBuffers.{LineBuffers}
use Rattle.program_streams.specs.declared.lines.RunError.{RunError}
use Rattle.program_streams.specs.declared.lines.RunError.TheVariants.{Read, Write, Memory}

-- `HasNoLineFeed line`: none of the bytes is a line feed
abbrev pub HasNoLineFeed : List ℕ → Type 0
HasNoLineFeed line = All (λ byte. is_line_feed byte ≡ false) line

-- `WritesPartOfText held held' text e`: what a step has written that was to write the text and
-- failed with `e`. If a write failed: a prefix of the text (`sent`). If an allocation failed:
-- nothing. It cannot fail with `Read` (`⊥`), since it does not read. `held` and `held'` are the
-- bytes that had been written before and after the step, if they are known.
abbrev pub WritesPartOfText : Option (List ℕ) → Option (List ℕ) → List ℕ → RunError → Type 0
WritesPartOfText held held' text Read = ⊥
WritesPartOfText held held' text Memory = Keeps held held'
WritesPartOfText held held' text Write = (sent unsent : List ℕ)
    × (text ≡ sent ++ unsent) × Appends held held' sent

-- `WritesText held held' text result`: if the step succeeded (`Ok`), it has written the text; if it
-- failed, it has written what `WritesPartOfText` says. The returned value is not considered.
abbrev pub WritesText : {Value : Type 0} → Option (List ℕ) → Option (List ℕ) → List ℕ
    → Result Value RunError → Type 0
WritesText held held' text (Ok value) = Appends held held' text
WritesText held held' text (Err e) = WritesPartOfText held held' text e

-- `all_answers_good good answer lines`: whether the answer to each of the lines is a good one, by
-- `good`
abbrev pub all_answers_good : (List ℕ → Bool) → (List ℕ → List ℕ) → List (List ℕ) → Bool
all_answers_good good answer lines = list_all (λ line. good (answer line)) lines

-- `AnswersChunk answer good before chunk after is_good`: the lines that end in the chunk of input
-- were answered, and their answers were appended to the buffer of answers. `is_good` is whether
-- each of these answers is a good one. `before` and `after` are the buffers before and after that.
pub record AnswersChunk (answer : List ℕ → List ℕ) (good : List ℕ → Bool) (before : LineBuffers)
    (chunk : List ℕ) (after : LineBuffers) (is_good : Bool) : Type 0 where
  -- the lines that end in the chunk
  pub whole : List (List ℕ)
  -- The first of these lines may have begun before the chunk: the buffer `line` has the bytes since
  -- the last line feed. After the chunk it has the bytes that follow the last line.
  pub splits : SplitsIntoLines (before.line.items ++ chunk) whole after.line.items
  -- these bytes have no line feed
  pub unended : HasNoLineFeed after.line.items
  pub added : after.answers.items ≡ before.answers.items ++ answer_lines answer whole
  pub judged : is_good ≡ all_answers_good good answer whole
