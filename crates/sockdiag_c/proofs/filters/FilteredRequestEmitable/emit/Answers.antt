use Rattle.std.proofs.Common.{arith}
use Rattle.sockdiag_c.proofs.FilteredRequests.{bytes_after_record_length}
use Rattle.sockdiag_c.proofs.FilteredRequests.{request_length_with_attributes}
use Rattle.sockdiag_c.proofs.filters.FilteredRequestEmitable.emit.Goals as goal

pub split_at_mut-request_part-requires : goal.split_at_mut-request_part-requires
split_at_mut-request_part-requires c =
    grind (
      arith,
      request_length_with_attributes,
      bytes_after_record_length,
      c.request_len.ensures.all,
    )

pub overflow_cast-len : goal.overflow_cast-len
overflow_cast-len c =
    grind (
      arith,
      request_length_with_attributes c.args.self.now.request.now c.args.self.now.attributes.now,
      c.buffer_len-len.ensures,
    )
