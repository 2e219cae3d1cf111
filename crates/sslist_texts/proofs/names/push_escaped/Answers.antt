use Rattle.sslist_texts.specs.Escapes.{escaped_byte}
use Rattle.sslist_texts.proofs.Adding.{all_parts_appended, one_more_part_appended}
use Rattle.sslist_texts.proofs.names.push_escaped.Goals as goal

pub loop-byte-preserved : goal.loop-byte-preserved
loop-byte-preserved c =
    one_more_part_appended escaped_byte _ _ 0 _ _ _ c.loop-byte-test.true
    c.in_ok-push_escaped_byte.ensures c.loop-byte.invariant

pub returns : goal.returns
returns c =
    all_parts_appended escaped_byte _ _ _ _ c.loop-byte-test.false
    c.loop-byte.invariant
