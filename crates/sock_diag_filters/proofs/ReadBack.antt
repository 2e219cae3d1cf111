-- A request with attributes round-trips.
use Rattle.std.proofs.lemmas.Grind.{common_steps}
use Rattle.std.proofs.Common.{◌≡◌, ◌≢◌, ◌∙◌, ℕ, ◌+◌, ◌≤◌, List, [], ◌∷◌, ◌++◌, length, inl, inr}
use Rattle.std.proofs.Common.{drop, refl, sym, ap, subst, arith, Result, Ok, append_assoc}
use Rattle.std.specs.Prelude.{map, slice_index, unwrap_or, None, Some}
use Rattle.std.proofs.lemmas.Bool.{cases_lt}
use Rattle.std.specs.List.{AllByRecursion, AllZip, flat_map}
use Rattle.std.proofs.lemmas.List.{append-nil, drop_at, length-append}
use Rattle.netlink_core.specs.Attribute.{Attribute, HasAttributeError, SplitsIntoAttributes}
use Rattle.netlink_core.specs.laws.Prefix.{FitsHeaderFields}
use Rattle.netlink_core.specs.Attribute.{padding_length, attribute_bytes}
use Rattle.netlink_core.specs.Datagram.{SplitsIntoMessages}
use Rattle.netlink_core.specs.declared.error.DecodeError.{DecodeError}
use Rattle.netlink_core.specs.declared.header.NetlinkHeader.{NetlinkHeader}
use Rattle.netlink_core.specs.Layout.{record_bytes, parse_record}
use Rattle.netlink_core.specs.Header.{HasHeader, IsMessageError, header_bytes}
use Rattle.netlink_core.specs.Header.{message_payload}
use Rattle.netlink_core.proofs.Numbers.{little_endian, number-reads_back}
use Rattle.netlink_core.proofs.Splitting.{all_attribute_bytes_split, decoded_or_error_apart}
use Rattle.netlink_core.proofs.Splitting.{one_split_into_attributes, encoded_values_are_decoded}
use Rattle.netlink_core.proofs.Datagrams.{one_split_into_messages}
use Rattle.netlink_core.proofs.Headers.{header_length, begins_with_header, one_header}
use Rattle.netlink_core.proofs.PrefixCodecs.{is_prefix_codec}
use Rattle.sock_diag_records.specs.InetRequest.{inet_request}
use Rattle.sock_diag_records.specs.laws.InetRequest.{inet_request_has_fixed_length}
use Rattle.sock_diag_records.specs.laws.InetRequest.{inet_request_sound, inet_request_length}
use Rattle.sock_diag_records.specs.IpVersions.{IpVersions, versions_of_family}
use Rattle.sock_diag_records.specs.declared.inet.request.InetRequest.{InetRequest}
use Rattle.sock_diag_filters.specs.declared.request.RequestAttribute.{RequestAttribute}
use Rattle.sock_diag_filters.specs.declared.request.RequestAttribute.TheVariants.{Program, Protocol}
use Rattle.sock_diag_filters.specs.declared.request.RequestWithAttributes.{RequestWithAttributes}
use Rattle.sock_diag_filters.specs.declared.view.RequestView.{RequestView}
use Rattle.sock_diag_filters.specs.InetRequests.{ParsesAsRequest, IsRequestType, IsRejectedRequest}
use Rattle.sock_diag_filters.specs.InetRequests.{RequestContent, no_attributes, no_message}
use Rattle.sock_diag_filters.specs.InetRequests.{no_request}
use Rattle.sock_diag_filters.specs.InetRequests.{last_program, last_protocol, other_type}
use Rattle.sock_diag_filters.specs.InetRequests.{decode_request_attribute}
use Rattle.sock_diag_filters.specs.InetRequests.{request_attribute_content}
use Rattle.sock_diag_filters.specs.ReadBack.{IsRoundTrippingRequest, IsRequestAttributeInRange}
use Rattle.sock_diag_filters.specs.ReadBack.{IsParsedRequest, serialized_request_header}
use Rattle.sock_diag_filters.specs.Requests.{request_attribute, request_message}
use Rattle.sock_diag_filters.proofs.Requesting.{request_message_length}

-- ---- attributes

fit_header_fields : (attributes : List RequestAttribute)
    → AllByRecursion IsRequestAttributeInRange attributes
    → AllByRecursion FitsHeaderFields (map request_attribute attributes)
fit_header_fields [] fit = tt
fit_header_fields (Program program ∷ more) fit =
    ((omega arith, fit.0), fit_header_fields more fit.1)
fit_header_fields (Protocol protocol ∷ more) fit =
    ((omega arith, omega arith), fit_header_fields more fit.1)

attribute_decodes_to_content : (a : RequestAttribute) → IsRequestAttributeInRange a
    → decode_request_attribute (request_attribute a) ≡ Ok (request_attribute_content a)
attribute_decodes_to_content a fit =
    grind (arith, number-reads_back little_endian 4)

attributes_decode_to_contents : (attributes : List RequestAttribute)
    → AllByRecursion IsRequestAttributeInRange attributes
    → AllZip (λ a decoded. decode_request_attribute a
    ≡ Ok decoded) (map request_attribute attributes) (map request_attribute_content attributes)
attributes_decode_to_contents [] fit = tt
attributes_decode_to_contents (a ∷ more) fit =
    (attribute_decodes_to_content a fit.0, attributes_decode_to_contents more fit.1)

equal_decoded_contents : (t u : RequestContent) (r : Result RequestContent DecodeError) → r ≡ Ok t
    → r ≡ Ok u
    → t ≡ u
equal_decoded_contents t u r h k = cc

-- The attributes decode to at most one list of contents.
decoded_contents_are_unique : (all : List Attribute) (decoded others : List RequestContent)
    → AllZip (λ a t. decode_request_attribute a ≡ Ok t) all decoded
    → AllZip (λ a t. decode_request_attribute a ≡ Ok t) all others
    → decoded ≡ others
decoded_contents_are_unique (a ∷ all) (t ∷ decoded) (u ∷ others) h k =
    let first = equal_decoded_contents t u (decode_request_attribute a) h.0 k.0 in
    let later = decoded_contents_are_unique all decoded others h.1 k.1 in
    cc
decoded_contents_are_unique all decoded others h k = grind arith

-- ---- the message

-- A message whose length is the length in its header does not start with an error of the header.
pub complete_message_has_no_error : (b : List ℕ) (h : NetlinkHeader) (e : DecodeError)
    → HasHeader b h
    → length b ≡ h.length → IsMessageError b e → ⊥
complete_message_has_no_error b h e head whole error =
    let counted = header_length b h head ∙ sym whole in
    let alone : SplitsIntoMessages b (b ∷ []) None = (
      [],
      record {
        padding = [];
        parts = sym (append-nil b);
        whole = (omega (arith, head.2), counted);
        filled = elim (cases_lt 0 (padding_length (length b))) [
          | inl short ↦ inr (short, refl)
          | inr full ↦ inl (omega (arith, full))
        ];
      },
      refl,
    ) in
    let some : b ≢ [] = λ none. omega (arith, ap length none, head.2, whole) in
    absurd (cc (one_split_into_messages b [] (b ∷ []) (Some e) None (some, error) alone).0)

-- The length of a serialized request is the length in its header.
pub request_has_own_length : (r : RequestWithAttributes)
    → length (request_message r) ≡ (serialized_request_header r).length
request_has_own_length r =
    request_message_length r.header r.request (map request_attribute r.attributes.now)

-- The family at the start of a record does not depend on the bytes after the record.
versions_ignore_suffix : (kinds : IpVersions) (left rest : List ℕ) → 56 ≤ length left
    → versions_of_family (slice_index left 0) ≡ Ok kinds
    → versions_of_family (slice_index (left ++ rest) 0) ≡ Ok kinds
versions_ignore_suffix kinds left rest long h =
    grind (arith, common_steps)

module _ (r : RequestWithAttributes) (can : IsRoundTrippingRequest r) where
  abbrev attributes : List RequestAttribute
  attributes = r.attributes.now

  abbrev header : NetlinkHeader
  header = serialized_request_header r

  abbrev request_record_bytes : List ℕ
  request_record_bytes = record_bytes inet_request r.request

  abbrev behind : List ℕ
  behind = flat_map attribute_bytes (map request_attribute attributes)

  abbrev message : List ℕ
  message = request_message r

  pub starts_with_serialized_header : HasHeader message header
      × (message_payload message header ≡ request_record_bytes ++ behind)
  starts_with_serialized_header =
      let size : header.length ≡ 16 + length (request_record_bytes ++ behind) =
      omega (arith, length-append request_record_bytes behind, inet_request_length r.request) in
      let whole : header_bytes header ++ ((request_record_bytes ++ behind) ++ []) ≡ message =
      ap (λ (l : List ℕ). header_bytes header ++ l) (append-nil (request_record_bytes ++ behind))
      ∙ sym (append_assoc (header_bytes header) request_record_bytes behind) in
      subst (λ (m : List ℕ). HasHeader m header
      × (message_payload m header ≡ request_record_bytes ++ behind))
      whole (begins_with_header header (request_record_bytes ++ behind) [] can.in_range.0 size)

  is_read : parse_record inet_request tt (request_record_bytes ++ behind) ≡ Ok r.request
  unfolding inet_request
  is_read =
      (is_prefix_codec inet_request inet_request_sound inet_request_has_fixed_length
      versions_ignore_suffix).reads_as_prefix
      r.request behind can.in_range.1 can.normal

  attributes_after_request : (k : NetlinkHeader) → k ≡ header
      → drop 56 (message_payload message k) ≡ behind
  attributes_after_request k same =
      ap (λ (g : NetlinkHeader). drop 56 (message_payload message g)) same
      ∙ ap (drop 56) starts_with_serialized_header.1
      ∙ drop_at request_record_bytes behind 56 (inet_request_length r.request)

  pub reads_as : (k : NetlinkHeader) → k ≡ header
      → parse_record inet_request tt (message_payload message k)
      ≡ Ok r.request
  reads_as k same =
      ap (λ (g : NetlinkHeader). parse_record inet_request tt (message_payload message g)) same
      ∙ ap (parse_record inet_request tt) starts_with_serialized_header.1 ∙ is_read

  pub serialized_request_parses : (view : RequestView) → ParsesAsRequest message view
      → IsParsedRequest r view
  serialized_request_parses view asks =
      let all : List Attribute = map request_attribute attributes in
      let same = one_header message view.header header asks.framed
      starts_with_serialized_header.0 in
      let asked : view.request ≡ r.request =
      same_request view.request r.request (sym asks.parsed ∙ reads_as view.header same) in
      let cut = subst (λ (b : List ℕ). SplitsIntoAttributes b asks.decodes.0 [])
      (attributes_after_request view.header same)
      asks.decodes.1 in
      let one = one_split_into_attributes behind asks.decodes.0 all cut
      (all_attribute_bytes_split all (fit_header_fields attributes can.in_range.2)) in
      let decoded = decoded_contents_are_unique all asks.decoded
      (map request_attribute_content attributes)
      (subst (λ (l : List Attribute). AllZip (λ a t. decode_request_attribute a ≡ Ok t) l
      asks.decoded) one
      asks.decodes.2)
      (attributes_decode_to_contents attributes can.in_range.2) in
      record {
        header = same;
        same_request = asked;
        program = asks.program
            ∙ ap (λ (l : List RequestContent). last_program l) decoded;
        protocol = asks.protocol
            ∙ ap (λ (l : List RequestContent).
            unwrap_or (last_protocol l) view.request.protocol) decoded
            ∙ ap (λ (asked : InetRequest). unwrap_or
            (last_protocol (map request_attribute_content attributes))
            asked.protocol) asked;
      }
    where
      read_as : InetRequest → Result InetRequest DecodeError
      read_as r = Ok r

      same_request : (r s : InetRequest) → read_as r ≡ read_as s → r ≡ s
      same_request r s e = cc

  pub serialized_request_is_accepted : (e : DecodeError) → IsRequestType r.header.message_type
      → IsRejectedRequest message e
      → ⊥
  serialized_request_is_accepted e kind (no_message error) =
      complete_message_has_no_error message header e starts_with_serialized_header.0
      (request_has_own_length r) error
  serialized_request_is_accepted e kind (other_type k framed other unknown) =
      other (subst (λ (g : NetlinkHeader). IsRequestType g.message_type)
      (one_header message header k starts_with_serialized_header.0 framed) kind)
  serialized_request_is_accepted e kind (no_request k framed also refused) =
      absurd (cc (
        reads_as k (one_header message k header framed starts_with_serialized_header.0),
        refused,
      ))
  serialized_request_is_accepted e kind (no_attributes k asked framed also parses error) =
      let all : List Attribute = map request_attribute attributes in
      let same = one_header message k header framed starts_with_serialized_header.0 in
      decoded_or_error_apart decode_request_attribute behind
      (map request_attribute_content attributes) e
      (encoded_values_are_decoded decode_request_attribute all
      (map request_attribute_content attributes)
      (fit_header_fields attributes can.in_range.2)
      (attributes_decode_to_contents attributes can.in_range.2))
      (subst (λ (b : List ℕ). HasAttributeError decode_request_attribute b e)
      (attributes_after_request k same) error)
