-- The length of requests with attributes, and the bytes that they are serialized to.
use Rattle.std.proofs.Common.{◌≡◌, ◌∙◌, ℕ, ◌+◌, ◌≤◌, List, ◌++◌, length, drop, sym, ap, arith, Ok}
use Rattle.std.proofs.Common.{append_assoc}
use Rattle.std.proofs.lemmas.List.{drop-drop, length-append}
use Rattle.std.specs.List.{flat_map}
use Rattle.netlink_core.specs.Attribute.{Attribute, attribute_bytes}
use Rattle.netlink_core.specs.declared.header.NetlinkHeader.{NetlinkHeader}
use Rattle.netlink_core.specs.Layout.{record_bytes, parse_record}
use Rattle.netlink_core.specs.Header.{header_bytes}
use Rattle.netlink_core.proofs.LayoutLaws.{parsed_by_fields}
use Rattle.sock_diag_records.specs.InetRequest.{inet_request}
use Rattle.sock_diag_records.specs.laws.InetRequest.{inet_request_length}
use Rattle.sock_diag_records.specs.declared.inet.request.InetRequest.{InetRequest}
use Rattle.sock_diag_filters.specs.Requests.{header_with_length, request_bytes}

pub request_message_length : (h : NetlinkHeader) (r : InetRequest) (attributes : List Attribute)
    → length (request_bytes h r attributes) ≡ 72 + length (flat_map attribute_bytes attributes)
request_message_length h r attributes =
    grind (
      arith,
      length-append (record_bytes inet_request r) (flat_map attribute_bytes attributes),
      inet_request_length r,
    )

-- The bytes of the header, the record and the attributes, in this order, are the bytes of the
-- message.
pub message_parts_are_written : (h : NetlinkHeader) (r : InetRequest) (attributes : List Attribute)
    (len : ℕ)
    (front behind rest old : List ℕ) → len ≡ length (request_bytes h r attributes)
    → front ≡ header_bytes (header_with_length h len) ++ record_bytes inet_request r
    → behind ≡ flat_map attribute_bytes attributes
    ++ drop (length (flat_map attribute_bytes attributes)) rest
    → rest ≡ drop 72 old
    → front ++ behind
    ≡ request_bytes h r attributes ++ drop (length (request_bytes h r attributes)) old
message_parts_are_written h r attributes len front behind rest old size is_front is_behind is_rest =
    let given : List ℕ = flat_map attribute_bytes attributes in
    let whole = request_message_length h r attributes in
    let own : List ℕ = header_bytes (header_with_length h (72 + length given))
    ++ record_bytes inet_request r in
    let left : drop (length given) rest ≡ drop (length (request_bytes h r attributes)) old =
    ap (drop (length given)) is_rest ∙ drop-drop (length given) 72 old
    ∙ ap (λ (n : ℕ). drop n old) (sym whole) in
    ap (λ (l : List ℕ). l ++ behind) (is_front
    ∙ ap (λ (n : ℕ). header_bytes (header_with_length h n) ++ record_bytes inet_request r)
    (size ∙ whole))
    ∙ ap (λ (l : List ℕ). own ++ l) (is_behind ∙ ap (λ (l : List ℕ). given ++ l) left)
    ∙ sym (append_assoc own given (drop (length (request_bytes h r attributes)) old))

-- Bytes that parse as a request's record are at least 56.
pub request_record_is_long_enough : (left : List ℕ) (r : InetRequest)
    → parse_record inet_request tt left ≡ Ok r → 56 ≤ length left
unfolding inet_request
request_record_is_long_enough left r is = (parsed_by_fields inet_request tt left r is).long
