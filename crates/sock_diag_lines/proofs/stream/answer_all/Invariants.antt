use Rattle.sock_diag_lines.proofs.AnswerLemmas.{answer_of}
use Rattle.sock_diag_lines.proofs.stream.answer_all.Given as goal

abbrev pub ghosts-serve : goal.ghosts-serve
ghosts-serve g a = record {
  left_before = g.R.PromptRead.left a.input.now;
  held_before = g.W.Sink.held a.output.now;
  answer = answer_of;
}
