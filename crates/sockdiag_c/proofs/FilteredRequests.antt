-- The lengths of requests with attributes of the caller.
use Rattle.std.proofs.Common.{◌≡◌, ℕ, ◌+◌, List, length, arith}
use Rattle.std.proofs.lemmas.List.{length-append, length-replicate}
use Rattle.netlink_core.specs.Attribute.{padding_length}
use Rattle.netlink_core.specs.Layout.{record_bytes}
use Rattle.sock_diag_records.specs.InetRequest.{inet_request}
use Rattle.sock_diag_records.specs.laws.InetRequest.{inet_request_length}
use Rattle.sockdiag_c.specs.declared.requests.InetRequest.{InetRequest}
use Rattle.sockdiag_c.specs.Requests.{bytes_after_record, request_with_attributes}
use Rattle.sockdiag_c.specs.Requests.{inet_request_from_c, length_with_attributes}
use Rattle.sockdiag_c.specs.Requests.{protocol_attribute, with_padding}

-- the bytes with their padding
pub padded_length : (attributes : List ℕ)
    → length (with_padding attributes) ≡ length attributes + padding_length (length attributes)
padded_length attributes =
    grind (arith, length-append, length-replicate)

pub bytes_after_record_length : (r : InetRequest) (attributes : List ℕ)
    → length (bytes_after_record r attributes)
    ≡ length (protocol_attribute r.protocol)
    + (length attributes + padding_length (length attributes))
bytes_after_record_length r attributes =
    grind (
      arith,
      length-append (protocol_attribute r.protocol) (with_padding attributes),
      padded_length attributes,
    )

pub request_length_with_attributes : (r : InetRequest) (attributes : List ℕ)
    → length (request_with_attributes r attributes) ≡ length_with_attributes r attributes
request_length_with_attributes r attributes =
    grind (
      arith,
      length-append (record_bytes inet_request (inet_request_from_c r))
          (bytes_after_record r attributes),
      inet_request_length (inet_request_from_c r),
    )
