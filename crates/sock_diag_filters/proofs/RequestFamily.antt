-- The family of a request, or its error.
use Rattle.std.proofs.Common.{arith, ◌≡◌, ℕ, ◌≤◌, List, length, le-ltb, Result, Ok, Err, IfErr}
use Rattle.std.proofs.Common.{MatchResult, inl, inr, is_ok}
use Rattle.std.specs.Prelude.{slice_index}
use Rattle.netlink_core.specs.declared.error.DecodeError.{DecodeError}
use Rattle.netlink_core.specs.declared.header.NetlinkHeader.{NetlinkHeader}
use Rattle.sock_diag_filters.specs.AnyRequest.{RecordFamily, RequestedFamily, inet, of_record}
use Rattle.sock_diag_filters.specs.AnyRequest.{family_of_message, IsRejectedByFamily}
use Rattle.sock_diag_filters.specs.AnyRequest.{family_by_byte, family_of_request_payload}
use Rattle.sock_diag_filters.specs.AnyRequest.{record_request_codec}
use Rattle.netlink_core.specs.Header.{message_payload}
use Rattle.sock_diag_filters.specs.InetRequests.{IsRejectedRequest, IsRequestType}

-- The first byte of a request's payload determines its family.
pub family_by_first_byte : (payload : List ℕ) (t : ℕ) (decoded : Result RequestedFamily DecodeError)
    → 2 ≤ length payload → IsRequestType t → family_by_byte (slice_index payload 0) ≡ decoded
    → family_of_request_payload payload t ≡ decoded
family_by_first_byte payload t decoded long h is =
    grind (arith, le-ltb (length payload) 2 long)

-- The error of a parser is the error of the message. `made` is `read` with another value.
error_of_parser : {A B : Type 0} (P : A → Type 0) (R S : DecodeError → Type 0)
    (read : Result A DecodeError) (made : Result B DecodeError) → ((e : DecodeError) → R e → S e)
    → IfErr read R → MatchResult read P (λ e. made ≡ Err e) → is_ok made ≡ is_ok read
    → IfErr made S
error_of_parser P R S (Ok x) (Ok y) rejects error same variant = tt
error_of_parser P R S (Ok x) (Err e) rejects error same variant = absurd (cc)
error_of_parser P R S (Err e) made rejects error same variant = rw same (rejects e error)

-- A message is rejected with the error of the parser of its family's record.
pub rejected_record : (message : List ℕ) (h : NetlinkHeader) (family : RecordFamily) {A B : Type 0}
    (P : A → Type 0) (read : Result A DecodeError) (made : Result B DecodeError)
    → family_of_message message h ≡ Ok (of_record family)
    → IfErr read (λ e. (record_request_codec family).parses tt (message_payload message h) ≡ Err e)
    → MatchResult read P (λ e. made ≡ Err e) → is_ok made ≡ is_ok read
    → IfErr made (IsRejectedByFamily message h)
rejected_record message h family P read made is =
    error_of_parser P
    (λ e. (record_request_codec family).parses tt (message_payload message h) ≡ Err e)
    (IsRejectedByFamily message h) read made (λ e rejected. inr (inr (family, is, rejected)))

-- A message for IPv4 and IPv6 sockets is rejected with the error of the parser of `RequestView`.
pub rejected_view : (message : List ℕ) (h : NetlinkHeader) {A B : Type 0} (P : A → Type 0)
    (read : Result A DecodeError) (made : Result B DecodeError)
    → family_of_message message h ≡ Ok inet → IfErr read (IsRejectedRequest message)
    → MatchResult read P (λ e. made ≡ Err e) → is_ok made ≡ is_ok read
    → IfErr made (IsRejectedByFamily message h)
rejected_view message h P read made is =
    error_of_parser P (IsRejectedRequest message) (IsRejectedByFamily message h) read made
    (λ e rejected. inr (inl (is, rejected)))
