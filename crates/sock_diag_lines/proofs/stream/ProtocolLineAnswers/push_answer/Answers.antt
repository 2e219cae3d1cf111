use Rattle.std.proofs.Common.{◌≡◌}
use Rattle.std.proofs.lemmas.List.{take_rest}
use Rattle.std.proofs.Math.Seq.{drop-append_seam}
use Rattle.sock_diag_lines.proofs.AnswerLemmas.{one_answer_of_line, read_answer}
use Rattle.sock_diag_lines.proofs.stream.ProtocolLineAnswers.push_answer.Goals as goal

pub returns : goal.returns
returns c = λ line answer parsed right.
    let (more, is, adds) = c.in_ok-push_answer_text.ensures in
    let same : more ≡ answer = one_answer_of_line line more answer
    (read_answer line c.args.request c.args.bytes.now more parsed adds) right in
    let start = rw c.args.text.now.ok.0 at c.len-start.ensures in
    let cut = drop-append_seam c.args.text.now.items more in
    (rw same at is, rw (c.is_good.ensures, take_rest, c.deref.ensures.value, is, start, cut, same))
