use Rattle.std.proofs.Common.{append_assoc}
use Rattle.sslist_lister.specs.RequestLine.{request_text}
use Rattle.sslist_lister.proofs.request_line.push_request.Goals as goal

pub returns : goal.returns
unfolding request_text
returns c =
    rw (
      c.in_ok-extend_from_slice.ensures.items,
      c.request_verb.ensures,
      c.requested_by.ensures,
      append_assoc,
    ) at c.push_requested.ensures
