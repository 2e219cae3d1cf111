use Rattle.std.proofs.Common.{◌≡◌, List, ℕ, []}
use Rattle.program_streams.specs.LineRun.{answer_lines}
use Rattle.program_streams.specs.private.LineRun.{HasNoLineFeed, all_answers_good}
use Rattle.program_streams.proofs.LineRunLemmas.{ReadAndWritten}
use Rattle.program_streams.proofs.lines.serve.Given as goal

-- before each read, all complete lines have been answered, and no answer is buffered
abbrev pub invariant-reads : goal.invariant-reads
invariant-reads g l = record {
  whole : List (List ℕ);
  up : ReadAndWritten g.S.RunStart.left_before (g.R.PromptRead.left l.input)
      g.S.RunStart.held_before (g.W.Sink.held l.output) whole l.buffers.line.items
      (answer_lines g.S.RunStart.answer whole);
  judged : l.is_good ≡ all_answers_good g.A.LineAnswers.good g.S.RunStart.answer whole;
  unended : HasNoLineFeed l.buffers.line.items;
  written : l.buffers.answers.items ≡ [];
  counted : g.R.PromptRead.reads l.input l._reads_made;
}
