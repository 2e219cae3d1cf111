use Rattle.sslist_facts.specs.Md5Keys.{key_byte}
use Rattle.sslist_texts.proofs.Adding.{all_parts_appended, one_more_part_appended}
use Rattle.sslist_facts.proofs.md5_keys.push_key_bytes.Goals as goal

pub loop-byte-preserved : goal.loop-byte-preserved
loop-byte-preserved c =
    one_more_part_appended key_byte _ _ 0 _ _ _ c.loop-byte-test.true
    c.in_ok-push_key_byte.ensures c.loop-byte.invariant

pub returns : goal.returns
returns c =
    all_parts_appended key_byte _ _ _ _ c.loop-byte-test.false
    c.loop-byte.invariant
