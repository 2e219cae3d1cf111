use Rattle.std.proofs.Common.{◌∙◌}
use Rattle.std.proofs.lemmas.Result.{on_ok_weaker}
use Rattle.sock_diag_lines.proofs.DumpLaws.{dump_text_after, texts_answer_dump}
use Rattle.sock_diag_lines.proofs.dump_line.push_dump.Goals as goal

pub returns : goal.returns
returns c =
    let count = rw c.args.dump.now.lengths.ok.0 at c.len.ensures in
    on_ok_weaker c.push_messages.result
    (λ e. (
      _,
      e ∙ rw (
        c.as_slice.ensures.value,
        c.as_slice-2.ensures.value,
        c.in_ok-push_number.ensures,
        c.in_ok-push.ensures.items,
        c.in_ok-push_end.ensures,
        c.in_ok-extend_from_slice.ensures.items,
        count,
      ) (dump_text_after c.args.text.now.items _ _ _),
      texts_answer_dump c.args.dump.now c.if-not-dump.false,
    ))
    c.push_messages.ensures
