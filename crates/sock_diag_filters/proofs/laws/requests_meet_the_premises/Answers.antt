use Rattle.std.proofs.Common.{◌+◌, ◌<◌, ◌≤◌, ◌^◌, ℕ, [], ◌∷◌, ◌++◌, length, refl, ap}
use Rattle.std.proofs.Common.{arith, inl, replicate}
use Rattle.std.proofs.lemmas.List.{length-append, length-replicate}
use Rattle.std.specs.List.{flat_map}
use Rattle.std.specs.Prelude.{map}
use Rattle.netlink_core.specs.Attribute.{Attribute, attribute_bytes, padding_length}
use Rattle.netlink_core.specs.Header.{header_fields, header_values}
use Rattle.netlink_core.specs.Layout.{IsInRange, IsNormal}
use Rattle.netlink_core.specs.Table.{FitFields}
use Rattle.netlink_core.specs.declared.header.NetlinkHeader.{NetlinkHeader}
use Rattle.sock_diag_records.specs.InetRequest.{inet_request}
use Rattle.sock_diag_records.specs.UnixRequest.{unix_request}
use Rattle.sock_diag_records.specs.declared.unix.request.UnixRequest.{UnixRequest}
use Rattle.sock_diag_filters.specs.Requests.{header_with_length, request_attribute}
use Rattle.sock_diag_filters.specs.Uses.{dump_flags, example_request_header, listen_state}
use Rattle.sock_diag_filters.specs.Uses.{tcp_request_with, zero_socket_id}
use Rattle.sock_diag_filters.specs.declared.request.RequestAttribute.TheVariants.{Program, Protocol}
use Rattle.sock_diag_filters.proofs.laws.requests_meet_the_premises.Goals as goal

-- An attribute has a header of 4 bytes, and at most 3 bytes of padding.
attribute_size : (a : Attribute) → length (attribute_bytes a) ≤ 7 + length a.value
attribute_size a =
    let n = padding_length (length a.value) in
    omega (arith, length-append a.value (replicate n 0), length-replicate {A = ℕ} n 0)

two_attributes_size : (a b : Attribute)
    → length (flat_map attribute_bytes (a ∷ b ∷ [])) ≤ 14 + (length a.value + length b.value)
two_attributes_size a b =
    omega (
      arith,
      length-append (attribute_bytes a) (attribute_bytes b ++ []),
      length-append (attribute_bytes b) [],
      attribute_size a,
      attribute_size b,
    )

-- the header of a request to list sockets
header_in_range : (len sequence_number : ℕ) → len < 2 ^ 32 → sequence_number < 2 ^ 32
    → FitFields header_fields
    (header_values (header_with_length (example_request_header 20 dump_flags sequence_number) len))
header_in_range len sequence_number small also =
    (omega arith, (omega arith, (omega arith, (omega arith, (omega arith, tt)))))

listening_in_range : IsInRange inet_request (tcp_request_with listen_state zero_socket_id)
unfolding inet_request
listening_in_range = ((refl, refl, refl), grind arith)

listening_is_normal : IsNormal inet_request tt (tcp_request_with listen_state zero_socket_id)
unfolding inet_request
listening_is_normal = ((refl, tt), refl)

pub returns-clause-inet : goal.returns-clause-inet
returns-clause-inet c = λ r program sequence_number small fits header request attributes.
    let size : length (flat_map attribute_bytes (map request_attribute r.attributes.now))
    ≤ 14 + (length program.now + 4) =
    rw attributes (two_attributes_size (request_attribute (Program program))
    (request_attribute (Protocol 262))) in
    let len = 72 + length (flat_map attribute_bytes (map request_attribute r.attributes.now)) in
    record {
      in_range = (
        rw header (header_in_range len sequence_number (omega (arith, size, fits)) small),
        rw request listening_in_range,
        rw attributes (fits, (omega arith, tt)),
      );
      normal = rw request listening_is_normal;
    }

-- the request for the listening UNIX sockets
abbrev unix_sockets : UnixRequest
unix_sockets = record {
  state_flags = record { 0 = listen_state };
  inode = 0;
  show_flags = record { 0 = 0x3f };
  cookie = replicate 8 255;
}

unix_in_range : IsInRange unix_request unix_sockets
unix_in_range = (refl, grind arith)

unix_is_normal : IsNormal unix_request tt unix_sockets
unix_is_normal = ((refl, (refl, tt)), tt)

pub returns-clause-unix : goal.returns-clause-unix
returns-clause-unix c = λ r sequence_number small fits header request. record {
  header = rw header
      (header_in_range (16 + (24 + length r.attributes)) sequence_number fits small);
  kind = inl (ap (λ (h : NetlinkHeader). h.message_type) header);
  counted = ap (λ (h : NetlinkHeader). h.length) header;
  in_range = rw request unix_in_range;
  normal = rw request unix_is_normal;
}
