use Rattle.std.proofs.Common.{refl}
use Rattle.sock_diag_lines.proofs.AnswerLemmas.{answer_of, answer_of-is, one_function}
use Rattle.sock_diag_lines.specs.Answer.{IsAnswerOf, is_good}
use Rattle.program_streams.proofs.LineRunLemmas.{run_complete}
use Rattle.sock_diag_lines.proofs.stream.answer_all.Goals as goal

pub serve-requires : goal.serve-requires
serve-requires g c = record { start = (refl, refl, c.requires.start); right = answer_of-is }

pub returns-clause-complete : goal.returns-clause-complete
returns-clause-complete g c = run_complete IsAnswerOf is_good answer_of
    one_function _ _ _ _
    c.serve.result c.serve.ensures.ended c.serve.ensures.answered

pub returns-clause-answered : goal.returns-clause-answered
returns-clause-answered g c =
    λ f right. rw (← one_function f right) c.serve.ensures.answered
