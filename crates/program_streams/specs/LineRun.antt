-- What a run has read and written when it ends.
use Rattle.std.specs.Prelude.{◌≡◌, ℕ, Bool, List, [], ◌∷◌, ◌++◌, map, take, Option, Result, Ok, Err}
use Rattle.std.specs.Prelude.{IfOk}
use Rattle.std.specs.List.{flat_map, list_all}
use Rattle.std.specs.Io.KnownBytes.{Appends, Consumes}
use Rattle.program_streams.specs.Lines.{SplitsIntoLines, all_lines, line_feed}
use Rattle.program_streams.specs.declared.lines.RunError.{RunError}
use Rattle.program_streams.specs.declared.lines.RunError.TheVariants.{Read, Write, Memory}

-- `AnswersEachLine is_answer answer`: for each line, the text `answer line` is an answer to it.
-- `is_answer line text` says that the text is an answer to the line.
abbrev pub AnswersEachLine : (List ℕ → List ℕ → Type 0) → (List ℕ → List ℕ) → Type 0
AnswersEachLine is_answer answer = (line : List ℕ) → is_answer line (answer line)

-- `with_line_feed text`: the text followed by a line feed
abbrev pub with_line_feed : List ℕ → List ℕ
with_line_feed text = text ++ line_feed ∷ []

-- `answer_lines answer lines`: the answer to each line, in order, each followed by a line feed
abbrev pub answer_lines : (List ℕ → List ℕ) → List (List ℕ) → List ℕ
answer_lines answer lines = flat_map (λ line. with_line_feed (answer line)) lines

-- The streams of a run. Each member is `None` if these bytes are not known.
pub record RunStreams : Type 0 where
  -- the bytes that are left to read, before and after the run
  pub left_before : Option (List ℕ)
  pub left_after : Option (List ℕ)
  -- the bytes that have been written, before and after the run
  pub held_before : Option (List ℕ)
  pub held_after : Option (List ℕ)

-- `HasWritten streams bytes`: the run has appended these bytes to what had been written before it
abbrev pub HasWritten : RunStreams → List ℕ → Type 0
HasWritten streams bytes = Appends streams.held_before streams.held_after bytes

-- `answer line` is the answer to a line. `answer` and `streams` are the first two arguments of both
-- definitions below. Among themselves they do not write them.
module _ (answer : List ℕ → List ℕ) (streams : RunStreams) where
  -- `HasWrittenAnswers answer streams result whole all`: what a run with this result has written.
  -- `whole` are the complete lines that it has read, and `all` are these lines and a last one
  -- without a line feed, if there is one. If the run succeeds: the answers to all lines. If a read
  -- fails: the answers to the complete lines. If an allocation fails: the answers to the first
  -- `count` complete lines, for some `count`. If a write fails: the first `count` bytes of the
  -- answers to all lines, for some `count`.
  abbrev pub HasWrittenAnswers : Result Bool RunError → List (List ℕ) → List (List ℕ) → Type 0
  HasWrittenAnswers (Ok is_good) whole all = HasWritten streams (answer_lines answer all)
  HasWrittenAnswers (Err Read) whole all = HasWritten streams (answer_lines answer whole)
  HasWrittenAnswers (Err Memory) whole all =
      (count : ℕ) × HasWritten streams (answer_lines answer (take count whole))
  HasWrittenAnswers (Err Write) whole all =
      (count : ℕ) × HasWritten streams (take count (answer_lines answer all))

  -- `AnswersInput answer streams good result`: a run with this result read a text, which splits
  -- into complete lines (`whole`) and the bytes after the last line feed (`rest`). It has written
  -- what `HasWrittenAnswers` says. If it succeeded, it returned whether each answer is a good one;
  -- `good` says this of one answer.
  abbrev pub AnswersInput : (List ℕ → Bool) → Result Bool RunError → Type 0
  AnswersInput good result = (whole : List (List ℕ)) × (rest text : List ℕ)
      × Consumes streams.left_before streams.left_after text
      × SplitsIntoLines text whole rest × HasWrittenAnswers result whole (all_lines whole rest)
      × IfOk result (λ is_good. is_good ≡ list_all good (map answer (all_lines whole rest)))
