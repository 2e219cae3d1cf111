use Rattle.std.proofs.lemmas.Result.{on_ok_weaker}
use Rattle.sock_diag_lines.proofs.AnswerLemmas.{read_answer}
use Rattle.sock_diag_lines.proofs.answers.push_answer.Goals as goal

pub returns : goal.returns
returns c =
    let read = read_answer c.args.line.now c.in_ok-request.request c.read_request.new.bytes.items in
    on_ok_weaker c.push_answer_text.result
    (λ a. (a.0, a.1, read a.0 c.in_ok-request.ensures (rw c.as_slice.ensures.value at a.2)))
    c.push_answer_text.ensures
