use Rattle.std.proofs.Common.{sym, ◌∙◌, append_assoc, append-nil}
use Rattle.std.proofs.lemmas.Str.{IsUtf8-past_char, chars_past_char}
use Rattle.std.proofs.StrCases.{chars_of_empty}
use Rattle.sslist_texts.proofs.names.push_chars.Goals as goal

pub loop-c-preserved : goal.loop-c-preserved
loop-c-preserved c =
    let held = c.loop-c.invariant in
    let parts = c.in-Some.ensures.steps.0 in (
      IsUtf8-past_char _ _ c.in-Some.c held.0 parts,
      rw (c.in_ok-push_char.ensures, append_assoc)
          (rw (chars_past_char _ _ c.in-Some.c held.0 parts) at held.1),
    )

pub returns : goal.returns
returns c = sym (append-nil _)
    ∙ rw (chars_of_empty _ c.in-None.ensures.steps.0.0) at c.loop-c.invariant.1
