use Rattle.sslist_texts.proofs.JsonWriting.{other_member, utf8_member}
use Rattle.sslist_texts.proofs.json_writing.write_bytes.Goals as goal

pub returns-in-Ok : goal.returns-in-Ok
returns-in-Ok c = record {
  prefix = c.write_text.ensures.prefix;
  members = rw (utf8_member _ _ _ c.in-Ok.ensures.cases.1)
      (rw c.in-Ok.ensures.cases.0 at c.write_text.ensures.members);
}

pub returns-in-Err : goal.returns-in-Err
returns-in-Err c = record {
  prefix = c.write_digits.ensures.prefix;
  members = rw (other_member _ _ _ c.in-Err.ensures.cases.0) c.write_digits.ensures.members;
}
