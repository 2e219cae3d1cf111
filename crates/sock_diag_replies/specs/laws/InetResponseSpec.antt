-- Laws of the replies about IPv4 and IPv6 sockets.
use Rattle.std.proofs.Common.{◌≡◌, ◌↔◌, ℕ, ◌≤◌, List, Bool, IsTrue, ◌++◌, length, slice_index, Ok}
use Rattle.std.proofs.Common.{arith}
use Rattle.std.proofs.lemmas.List.{get_or_append_left}
use Rattle.netlink_core.specs.Layout.{parse_record}
use Rattle.netlink_core.specs.Response.{ReplyValue}
use Rattle.netlink_core.specs.laws.ReplyObligations.{ResponseLaws}
use Rattle.sock_diag_records.specs.contracts.inet.equality.InetResponseHeaderExact.TheImpl.Laws.{
  exact-law as exact_header,
}
use Rattle.sock_diag_records.specs.contracts.inet.response.InetResponseHeaderPartialEq.TheImpl.{
  ghosts as headers,
}
use Rattle.sock_diag_records.specs.declared.inet.response.InetResponseHeader.{InetResponseHeader}
use Rattle.sock_diag_records.specs.declared.inet.response.TheConstants.{INET_RESPONSE_HEADER_LEN}
use Rattle.sock_diag_records.specs.IpVersions.{IpVersions}
use Rattle.sock_diag_records.specs.InetResponse.{inet_response_header}
use Rattle.sock_diag_records.specs.Timer.{timer_class}
use Rattle.sock_diag_records.specs.laws.InetResponse.{inet_response_header_sound}
use Rattle.sock_diag_records.specs.laws.InetResponse.{inet_response_header_has_fixed_length}
use Rattle.sock_diag_records.specs.laws.InetResponse.{versions_with_timer_class}
use Rattle.sock_diag_attributes.specs.laws.EqualInet.{inet_tests}
use Rattle.sock_diag_attributes.specs.InetAttributes.{inet_attribute_set}
use Rattle.sock_diag_attributes.specs.laws.InetAttribute.{inet_laws}
use Rattle.sock_diag_replies.specs.laws.EqualResponse.{response_test, response_test_decides}
use Rattle.sock_diag_replies.specs.laws.Header.{header_bytes_suffice, response_laws}
use Rattle.sock_diag_replies.specs.InetResponseSpec.{inet_response_spec}

-- bytes after a header do not change its tag
tag_ignores_suffix : (tag : IpVersions × ℕ) (left rest : List ℕ)
    → inet_response_header.least ≤ length left
    → inet_response_header.tag_for tt left ≡ Ok tag → inet_response_header.tag_for tt (left ++ rest)
    ≡ Ok tag
unfolding inet_response_header
tag_ignores_suffix tag left rest long e =
    grind (
      arith,
      get_or_append_left left rest 0 0,
      get_or_append_left left rest 0 2,
      versions_with_timer_class (timer_class (slice_index (left ++ rest) 2)),
      versions_with_timer_class,
    )

-- bytes with a valid header have at least 72 bytes
pub inet_header_bytes_suffice : (b : List ℕ) (h : InetResponseHeader)
    → parse_record inet_response_header tt b ≡ Ok h
    → INET_RESPONSE_HEADER_LEN ≤ length b
inet_header_bytes_suffice = header_bytes_suffice inet_response_header
    inet_response_header_has_fixed_length

-- the codec laws of the header and of the attributes
pub inet_response_laws : ResponseLaws inet_response_spec
inet_response_laws = response_laws inet_response_header inet_response_header_has_fixed_length
    inet_response_header_sound tag_ignores_suffix inet_laws

-- `==` of two headers is true if and only if they are equal
pub inet_header_equal : (h k : InetResponseHeader) → IsTrue (headers.eq h k) ↔ (h ≡ k)
inet_header_equal = exact_header.0

-- the test of two replies
abbrev pub inet_test : ReplyValue inet_response_spec → ReplyValue inet_response_spec → Bool
inet_test = response_test headers.eq inet_attribute_set inet_tests

pub inet_test_decides : (v w : ReplyValue inet_response_spec) → IsTrue (inet_test v w) ↔ (v ≡ w)
inet_test_decides = response_test_decides headers.eq inet_attribute_set inet_tests inet_header_equal
