use Rattle.std.proofs.Common.{◌∙◌, append-nil, append_assoc, string_bytes, sym}
use Rattle.std.proofs.lemmas.List.{drop_all}
use Rattle.sslist_command_line.proofs.Listed.{text_with_word, text_without_word}
use Rattle.sslist_command_line.proofs.files.filter_text.Goals as goal
use Rattle.sslist_command_line.proofs.files.filter_text.Goals.{else-is_word}
use Rattle.sslist_command_line.proofs.files.filter_text.Goals.{
  then-is_word+in_ok-extend_from_slice+in_ok-push,
}

pub loop-argument-preserved : goal.loop-argument-preserved
loop-argument-preserved c =
    elim c.if-is_word.branch [
      | then-is_word+in_ok-extend_from_slice+in_ok-push w ↦
          let more = text_with_word string_bytes _ _ _ c.argument-item.result
          c.argument_at-parsed.result c.as_bytes.result.now c.loop-argument-test.true
          c.argument-item.is c.as_bytes.ensures.value c.argument_at-parsed.ensures
          (sym c.is_word.ensures ∙ w.if-is_word.true) in
          rw (
            w.text-is,
            w.in_ok-push.ensures.items,
            w.in_ok-extend_from_slice.ensures.items,
            w.as_bytes-then-is_word.ensures.value ∙ sym c.as_bytes.ensures.value,
            c.next_place-place.ensures,
            append_assoc,
            append_assoc,
          ) (rw (more, append_assoc) at c.loop-argument.invariant)
      | else-is_word w ↦
          rw (w.text-is, c.next_place-place.ensures)
          (rw (text_without_word string_bytes _ _ _ c.argument-item.result
          c.argument_at-parsed.result c.as_bytes.result.now c.loop-argument-test.true
          c.argument-item.is c.as_bytes.ensures.value c.argument_at-parsed.ensures
          (sym c.is_word.ensures ∙ w.if-is_word.false)) at c.loop-argument.invariant)
    ]

pub returns : goal.returns
returns c =
    sym (append-nil _) ∙ (rw (drop_all c.loop-argument.argument-index _ c.loop-argument-test.false)
    at c.loop-argument.invariant)
