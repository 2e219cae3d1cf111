use Rattle.std.proofs.Common.{sym, refl, ◌∙◌, string_bytes}
use Rattle.std.proofs.lemmas.List.{drop_all}
use Rattle.sslist_command_line.proofs.Listed.{captures_with_file, captures_without_file, file_more}
use Rattle.sslist_command_line.proofs.Listed.{files_only, input_only, option_more}
use Rattle.sslist_command_line.proofs.files.list_captures.Goals as goal
use Rattle.sslist_command_line.proofs.files.list_captures.Goals.{then-names_file}
use Rattle.sslist_command_line.proofs.files.list_captures.Goals.{else-names_file}

pub loop-argument-preserved : goal.loop-argument-preserved
loop-argument-preserved g c =
    let kind = rw c.as_bytes.ensures.value at c.argument_at-parsed.ensures in
    rw c.next_place-place.ensures (elim c.if-names_file.branch [
      | then-names_file w ↦ rw (w.lister-is, w.status-is, w.is_named-is) (file_more string_bytes
          _ _ _ _ _ _ _ _ _ _ _ c.loop-argument.invariant
          (captures_with_file string_bytes _ _ _ _ _ _ c.loop-argument-test.true
          c.argument-item.is refl kind (sym c.names_file.ensures ∙ w.if-names_file.true))
          w.later_failure-status.ensures
          (λ before held. rw (w.capture_named.ensures, w.as_str.ensures.value) at
          (w.list_capture-next.ensures before held)))
      | else-names_file w ↦ rw (w.lister-is, w.status-is, w.is_named-is) (option_more string_bytes
          _ _ _ _ _ _ _ c.loop-argument.invariant
          (captures_without_file string_bytes _ _ _ _ _ _ c.loop-argument-test.true
          c.argument-item.is refl kind (sym c.names_file.ensures ∙ w.if-names_file.false)))
    ])

pub returns-then-is_named : goal.returns-then-is_named
returns-then-is_named g c =
    files_only string_bytes _ _ _ _ _ (rw c.if-is_named.true at c.loop-argument.invariant)
    (drop_all _ _ c.loop-argument-test.false)

pub returns-else-is_named : goal.returns-else-is_named
returns-else-is_named g c =
    input_only string_bytes _ _ _ _ _ _ _
    (rw c.if-is_named.false at c.loop-argument.invariant)
    (drop_all _ _ c.loop-argument-test.false) c.list_capture.ensures
