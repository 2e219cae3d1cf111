use Rattle.std.proofs.Common.{◌≡◌, [], List, ℕ}
use Rattle.sock_diag_lines.specs.Answer.{IsAnswerOf}
use Rattle.sock_diag_lines.specs.private.Text.{AppendsSome}
use Rattle.sock_diag_lines.proofs.AnswerLemmas.{same_answer_iff_equivalent, datagrams_in_range}
use Rattle.sock_diag_lines.proofs.DumpLaws.{answers_same_items, answers_split, one_dump_text}
use Rattle.sock_diag_lines.proofs.answers.answer.Goals as goal

-- what was appended to an empty text is the whole text
whole : (line old new : List ℕ) → old ≡ [] → AppendsSome old new (IsAnswerOf line)
    → IsAnswerOf line new
whole line old new none (more, e, is) = rw (e, none) is

pub returns-clause-same : goal.returns-clause-same
returns-clause-same c = λ name all other bytes bytes' text' asked asked' is'.
    let is = whole c.args.line.now _ _ c.new-text.ensures.items c.in_ok-push_answer.ensures in
    let t = same_answer_iff_equivalent name _ other bytes bytes' _ text' is is' asked.0 asked'.0
    asked.1 asked'.1 in
    (t.0 all, t.1)

pub returns-clause-equal_bytes : goal.returns-clause-equal_bytes
returns-clause-equal_bytes c = λ name other bytes bytes' text' asked asked' is'.
    let is = whole c.args.line.now _ _ c.new-text.ensures.items c.in_ok-push_answer.ensures in
    (same_answer_iff_equivalent name _ other bytes bytes' _ text' is is' asked.0 asked'.0 asked.1
    asked'.1).1

pub returns-clause-dumps : goal.returns-clause-dumps
returns-clause-dumps c = λ other text' datagrams datagrams' asked asked' same is'.
    let is = whole c.args.line.now _ _ c.new-text.ensures.items c.in_ok-push_answer.ensures in
    one_dump_text datagrams' (datagrams_in_range other datagrams' asked') _ text'
    (answers_same_items datagrams datagrams'
    (datagrams_in_range c.args.line.now datagrams asked) same _
    (is.dumped datagrams asked))
    (is'.dumped datagrams' asked')

pub returns-clause-split : goal.returns-clause-split
returns-clause-split c = λ other text' datagrams datagrams' asked asked' split split' same is'.
    let is = whole c.args.line.now _ _ c.new-text.ensures.items c.in_ok-push_answer.ensures in
    let in_range = datagrams_in_range other datagrams' asked' in
    one_dump_text datagrams' in_range _ text' (answers_split datagrams datagrams'
    in_range split split' same _ (is.dumped datagrams asked)) (is'.dumped datagrams' asked')
