use Rattle.sock_diag_lines.proofs.AnswerLemmas.{answer_of, answer_of-is, one_answer_of_line}
use Rattle.sock_diag_lines.proofs.answers.each_line_has_one_answer.Goals as goal

pub returns-clause-some : goal.returns-clause-some
returns-clause-some c = (answer_of, answer_of-is)

pub returns-clause-one : goal.returns-clause-one
returns-clause-one c = one_answer_of_line
