use Rattle.sslist_texts.specs.Escapes.{escaped_byte}
use Rattle.sslist_texts.proofs.Adding.{one_more_part_appended}
use Rattle.sslist_texts.proofs.names.escaped.Goals as goal

pub loop-byte-preserved : goal.loop-byte-preserved
loop-byte-preserved c =
    one_more_part_appended escaped_byte _ _ 0 _ _ _ c.loop-byte-test.true
    c.in_ok-push_byte_to_string.ensures c.loop-byte.invariant
