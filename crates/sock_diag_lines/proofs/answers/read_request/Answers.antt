use Rattle.std.proofs.Common.{◌+◌, drop, take, sym, ◌∙◌}
use Rattle.std.proofs.lemmas.List.{take_rest}
use Rattle.sock_diag_lines.proofs.AnswerLemmas.{no_request, not_dump}
use Rattle.sock_diag_lines.proofs.answers.read_request.Goals as goal

pub returns-else-branch : goal.returns-else-branch
returns-else-branch c =
    let line = c.args.line.now in
    let i = c.in-Some.space in
    let none = rw (c.if-branch.false, take_rest line (i + 1)) at c.in_ok-read_field.ensures in
    no_request line (take i line) (drop (i + 1) line) c.in-Some.ensures.fields
    (λ name bytes named. none bytes)
    (λ datagrams named each. not_dump c.in-Some-find_name.name
    (sym c.in-Some-find_name.ensures ∙ named))
