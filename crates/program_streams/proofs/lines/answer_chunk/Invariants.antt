use Rattle.std.proofs.Common.{◌≡◌, ◌≤◌, List, ℕ, ◌++◌, length}
use Rattle.std.specs.List.{slice_split}
use Rattle.memchr.specs.Find.{is_byte}
use Rattle.program_streams.specs.LineRun.{answer_lines}
use Rattle.program_streams.specs.private.LineRun.{HasNoLineFeed, all_answers_good}
use Rattle.program_streams.proofs.lines.answer_chunk.Given as goal

-- the lines `whole` have been answered, and `rest` remains
abbrev pub invariant-lines : goal.invariant-lines
invariant-lines g l = record {
  whole : List (List ℕ);
  splits : slice_split (is_byte 10) (l.fn.buffers.line.items ++ l.fn.chunk)
      ≡ whole ++ slice_split (is_byte 10) (l.buffers.line.items ++ l.rest);
  within : length l.rest ≤ length l.fn.chunk;
  unended : HasNoLineFeed l.buffers.line.items;
  added : l.buffers.answers.items ≡ l.fn.buffers.answers.items
      ++ answer_lines g.S.RunStart.answer whole;
  judged : l.is_good ≡ all_answers_good g.A.LineAnswers.good g.S.RunStart.answer whole;
}

abbrev pub decreases-lines : goal.decreases-lines
decreases-lines g l = length l.rest
