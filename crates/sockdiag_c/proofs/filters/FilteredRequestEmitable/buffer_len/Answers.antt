use Rattle.std.proofs.Common.{arith}
use Rattle.sockdiag_c.proofs.FilteredRequests.{bytes_after_record_length}
use Rattle.sockdiag_c.proofs.FilteredRequests.{request_length_with_attributes}
use Rattle.sockdiag_c.proofs.filters.FilteredRequestEmitable.buffer_len.Goals as goal

pub returns : goal.returns
returns c =
    grind (
      arith,
      request_length_with_attributes,
      bytes_after_record_length,
      c.request_len.ensures.all,
      c.padded.ensures,
    )
