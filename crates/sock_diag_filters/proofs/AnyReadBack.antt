-- A request for sockets of any family round-trips.
use Rattle.std.proofs.Common.{◌≡◌, ◌∙◌, ℕ, ◌+◌, ◌≤◌, List, [], ◌++◌, length, drop, refl, sym, ap}
use Rattle.std.proofs.Common.{subst, arith, inl, inr, Result, Ok, Err, append-nil}
use Rattle.std.specs.Prelude.{slice_index}
use Rattle.std.proofs.lemmas.Bool.{cases_eq, ne_eqb}
use Rattle.std.proofs.lemmas.List.{drop_at, length-append}
use Rattle.netlink_core.specs.declared.error.DecodeError.{DecodeError}
use Rattle.netlink_core.specs.declared.header.NetlinkHeader.{NetlinkHeader}
use Rattle.netlink_core.specs.Header.{HasHeader, header_bytes, message_payload}
use Rattle.netlink_core.specs.laws.ReplyObligations.{IsPrefixCodec}
use Rattle.netlink_core.proofs.Headers.{begins_with_header, one_header}
use Rattle.netlink_core.proofs.LayoutLaws.{parsed_by_fields}
use Rattle.netlink_core.proofs.PrefixCodecs.{is_prefix_codec}
use Rattle.sock_diag_records.specs.InetRequest.{inet_request}
use Rattle.sock_diag_records.specs.IpVersions.{IpVersions, versions_of_family}
use Rattle.sock_diag_records.specs.UnixRequest.{unix_request}
use Rattle.sock_diag_records.specs.laws.UnixRequest.{unix_request_sound}
use Rattle.sock_diag_families.specs.laws.Record.{show_request_sound, vsock_request_sound}
use Rattle.sock_diag_families.specs.ShowRequest.{show_request}
use Rattle.sock_diag_families.specs.VsockRequest.{vsock_request}
use Rattle.sock_diag_filters.specs.declared.request.RequestWithAttributes.{RequestWithAttributes}
use Rattle.sock_diag_filters.specs.AnyReadBack.{IsParsedInetRequest, IsCompleteRecordRequest}
use Rattle.sock_diag_filters.specs.AnyReadBack.{record_request_bytes}
use Rattle.sock_diag_filters.specs.AnyRequest.{ParsesAsAnyRequest, AnyRequest}
use Rattle.sock_diag_filters.specs.AnyRequest.{RecordFamily, RecordRequest, IsRejectedAnyRequest}
use Rattle.sock_diag_filters.specs.AnyRequest.{family_of_request_payload, record_request_codec}
use Rattle.sock_diag_filters.specs.AnyRequest.{family_of_message, inet, netlink, of_family, of_inet}
use Rattle.sock_diag_filters.specs.AnyRequest.{of_record, packet, IsRejectedByFamily}
use Rattle.sock_diag_filters.specs.AnyRequest.{record_request_size, family_by_byte, unix, vsock}
use Rattle.sock_diag_filters.specs.AnyRequest.{xdp}
use Rattle.sock_diag_filters.specs.InetRequests.{IsRequestType}
use Rattle.sock_diag_filters.specs.ReadBack.{IsRoundTrippingRequest, serialized_request_header}
use Rattle.sock_diag_filters.specs.Requests.{request_message}
use Rattle.sock_diag_filters.proofs.RequestFamily.{family_by_first_byte}
use Rattle.sock_diag_filters.proofs.ReadBack.{serialized_request_is_accepted}
use Rattle.sock_diag_filters.proofs.ReadBack.{complete_message_has_no_error}
use Rattle.sock_diag_filters.proofs.ReadBack.{serialized_request_parses, reads_as}
use Rattle.sock_diag_filters.proofs.ReadBack.{starts_with_serialized_header, request_has_own_length}

equal_ok_values : {A : Type 0} (r : Result A DecodeError) (x y : A) → r ≡ Ok x → r ≡ Ok y → x ≡ y
equal_ok_values r x y h k = cc

-- ---- the family of a request

inet_family_of_byte : (first : ℕ) (kinds : IpVersions) → versions_of_family first ≡ Ok kinds
    → family_by_byte first ≡ Ok inet
inet_family_of_byte first kinds is =
    grind (arith, cases_eq first 2, cases_eq first 10, ne_eqb first 2, ne_eqb first 10)

-- ---- records

pub record_codec_is_prefix_codec : (family : RecordFamily)
    → IsPrefixCodec (record_request_codec family) (record_request_size family)
record_codec_is_prefix_codec unix =
    is_prefix_codec unix_request unix_request_sound (refl, λ _. refl)
    (λ tag left rest long decoded. decoded)
record_codec_is_prefix_codec netlink =
    is_prefix_codec (show_request 16) (show_request_sound 16) (refl, λ _. refl)
    (λ tag left rest long decoded. decoded)
record_codec_is_prefix_codec packet =
    is_prefix_codec (show_request 17) (show_request_sound 17) (refl, λ _. refl)
    (λ tag left rest long decoded. decoded)
record_codec_is_prefix_codec vsock =
    is_prefix_codec vsock_request vsock_request_sound (refl, λ _. refl)
    (λ tag left rest long decoded. decoded)
record_codec_is_prefix_codec xdp =
    is_prefix_codec (show_request 44) (show_request_sound 44) (refl, λ _. refl)
    (λ tag left rest long decoded. decoded)

family_of_first_byte : (family : RecordFamily) (request : (record_request_codec family).Value)
    (rest : List ℕ)
    → family_by_byte (slice_index ((record_request_codec family).bytes request ++ rest) 0)
    ≡ Ok (of_record family)
family_of_first_byte unix request rest = refl
family_of_first_byte netlink request rest = refl
family_of_first_byte packet request rest = refl
family_of_first_byte vsock request rest = refl
family_of_first_byte xdp request rest = refl

-- a request with this header, record and bytes after it
abbrev record_request : (family : RecordFamily) → NetlinkHeader
    → (record_request_codec family).Value → List ℕ → RecordRequest family
record_request family header request attributes =
    record { header = header; request = request; attributes = attributes }

has_two : (family : RecordFamily) → 2 ≤ record_request_size family
has_two family =
    grind arith

module _ (family : RecordFamily) (r : RecordRequest family)
    (whole : IsCompleteRecordRequest r) where
  abbrev own : List ℕ
  own = (record_request_codec family).bytes r.request

  abbrev message : List ℕ
  message = record_request_bytes r

  long : length own ≡ record_request_size family
  long = (record_codec_is_prefix_codec family).bytes_long r.request whole.in_range

  starts_with_record_request_header : HasHeader message r.header
      × (message_payload message r.header ≡ own ++ r.attributes)
  starts_with_record_request_header =
      let size : r.header.length ≡ 16 + length (own ++ r.attributes) =
      omega (arith, whole.counted, long, length-append own r.attributes) in
      subst (λ (m : List ℕ). HasHeader m r.header
      × (message_payload m r.header ≡ own ++ r.attributes))
      (ap (λ (l : List ℕ). header_bytes r.header ++ l) (append-nil (own ++ r.attributes)))
      (begins_with_header r.header (own ++ r.attributes) [] whole.header size)

  record_family_of_message : family_of_message message r.header ≡ Ok (of_record family)
  record_family_of_message =
      let payload = starts_with_record_request_header.1 in
      let two = has_two family in
      ap (λ (l : List ℕ). family_of_request_payload l r.header.message_type) payload
      ∙ family_by_first_byte (own ++ r.attributes) r.header.message_type (Ok (of_record family))
      (omega (arith, long, two, length-append own r.attributes)) whole.kind
      (family_of_first_byte family r.request r.attributes)

  record_read : (record_request_codec family).parses tt (message_payload message r.header)
      ≡ Ok r.request
  record_read = ap ((record_request_codec family).parses tt) starts_with_record_request_header.1
      ∙ (record_codec_is_prefix_codec family).reads_as_prefix r.request r.attributes whole.in_range
      whole.normal

  bytes_after_parsed_record : drop (record_request_size family) (message_payload message r.header)
      ≡ r.attributes
  bytes_after_parsed_record = ap
      (drop (record_request_size family)) starts_with_record_request_header.1
      ∙ drop_at own r.attributes (record_request_size family) long

  -- What is parsed by the layout of the same family is the request that was serialized.
  same_record : (k : RecordFamily) → family ≡ k
      → (v : (record_request_codec k).Value) (behind : List ℕ)
      → (record_request_codec k).parses tt (message_payload message r.header) ≡ Ok v
      → behind ≡ drop (record_request_size k) (message_payload message r.header)
      → of_family k (record_request k r.header v behind) ≡ of_family family r
  same_record k same =
      let P : RecordFamily → Type 0 = λ k. (v : (record_request_codec k).Value) (behind : List ℕ)
      → (record_request_codec k).parses tt (message_payload message r.header) ≡ Ok v
      → behind ≡ drop (record_request_size k) (message_payload message r.header)
      → of_family k (record_request k r.header v behind) ≡ of_family family r in
      subst P same (λ v behind parses is.
      let value : v ≡ r.request = equal_ok_values _ v r.request parses record_read in
      let rest : behind ≡ r.attributes = is ∙ bytes_after_parsed_record in
      λ i. of_family family (record_request family r.header (value i) (rest i)))

  pub serialized_record_request_parses : (other : AnyRequest) → ParsesAsAnyRequest message other
      → other ≡ of_family family r
  serialized_record_request_parses (of_inet view) asks =
      let same = one_header message view.header r.header asks.1.framed
      starts_with_record_request_header.0 in
      let decoded = ap (family_of_message message) (sym same) ∙ asks.0 in
      absurd (cc (decoded, record_family_of_message))
  serialized_record_request_parses (of_family k other) asks =
      let same = one_header message other.header r.header asks.0
      starts_with_record_request_header.0 in
      let decoded : family_of_message message r.header ≡ Ok (of_record k) =
      ap (family_of_message message) (sym same) ∙ asks.1 in
      let one : family ≡ k = cc (decoded, record_family_of_message) in
      ap (λ (g : NetlinkHeader).
      of_family k (record_request k g other.request other.attributes)) same
      ∙ same_record k one other.request other.attributes
      (ap (λ (g : NetlinkHeader). (record_request_codec k).parses tt (message_payload message g))
      (sym same)
      ∙ asks.2)
      (asks.3 ∙ ap (λ (g : NetlinkHeader). drop (record_request_size k) (message_payload message g))
      same)

  pub serialized_record_request_is_accepted : (e : DecodeError) → IsRejectedAnyRequest message e → ⊥
  serialized_record_request_is_accepted e (inl error) =
      let size : length message ≡ r.header.length =
      grind (arith, long, whole.counted, length-append own r.attributes) in
      complete_message_has_no_error message r.header e starts_with_record_request_header.0 size
      error
  serialized_record_request_is_accepted e (inr (k, framed, refused)) =
      let same = one_header message k r.header framed starts_with_record_request_header.0 in
      elim (subst (λ (g : NetlinkHeader). IsRejectedByFamily message g e) same refused) [
        | inl unknown ↦ absurd (cc (unknown, record_family_of_message))
        | inr (inl (is, rejected)) ↦ absurd (cc (is, record_family_of_message))
        | inr (inr (other, is, rejected)) ↦
            let one : other ≡ family = cc (is, record_family_of_message) in
            let error = subst (λ (k : RecordFamily). (record_request_codec k).parses tt
            (message_payload message r.header) ≡ Err e) one rejected in
            absurd (cc (error, record_read))
      ]

-- ---- requests for IPv4 and IPv6 sockets

module _ (r : RequestWithAttributes) (can : IsRoundTrippingRequest r)
    (kind : IsRequestType r.header.message_type) where
  abbrev asked : List ℕ
  asked = request_message r

  abbrev own_header : NetlinkHeader
  own_header = serialized_request_header r

  inet_family_of_message : family_of_message asked own_header ≡ Ok inet
  unfolding inet_request
  inet_family_of_message =
      let read_there = parsed_by_fields inet_request tt (message_payload asked own_header) r.request
      (reads_as r can own_header refl) in
      family_by_first_byte (message_payload asked own_header) r.header.message_type (Ok inet)
      (let enough = read_there.long in omega arith) kind
      (inet_family_of_byte (slice_index (message_payload asked own_header) 0) read_there.tag
      read_there.tag_found)

  inet_header : (k : NetlinkHeader) → HasHeader asked k → k ≡ own_header
  inet_header k framed =
      grind (arith, one_header, starts_with_serialized_header)

  pub serialized_inet_request_parses : (other : AnyRequest) → ParsesAsAnyRequest asked other
      → IsParsedInetRequest r other
  serialized_inet_request_parses other asks =
      grind (arith, serialized_request_parses, inet_header, inet_family_of_message)

  pub serialized_inet_request_is_accepted : (e : DecodeError) → IsRejectedAnyRequest asked e → ⊥
  serialized_inet_request_is_accepted e (inl error) =
      complete_message_has_no_error asked own_header e
      (starts_with_serialized_header r can).0 (request_has_own_length r) error
  serialized_inet_request_is_accepted e (inr (k, framed, refused)) =
      elim (subst (λ (g : NetlinkHeader). IsRejectedByFamily asked g e) (inet_header k framed)
      refused) [
        | inl unknown ↦ absurd (cc (unknown, inet_family_of_message))
        | inr (inl (is, rejected)) ↦ serialized_request_is_accepted r can e kind rejected
        | inr (inr (family, is, rejected)) ↦ absurd (cc (is, inet_family_of_message))
      ]
