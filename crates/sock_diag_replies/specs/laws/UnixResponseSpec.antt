-- Laws of the replies about UNIX sockets.
use Rattle.std.proofs.Common.{◌≡◌, ◌≤◌, ◌↔◌, ℕ, List, Bool, IsTrue, length, Ok, refl}
use Rattle.netlink_core.specs.Layout.{parse_record}
use Rattle.netlink_core.specs.Response.{ReplyValue}
use Rattle.netlink_core.specs.laws.LayoutObligations.{HasFixedSize}
use Rattle.netlink_core.specs.laws.ReplyObligations.{ResponseLaws}
use Rattle.sock_diag_records.specs.contracts.unix.response.UnixResponseHeaderExact.TheImpl.Laws.{
  exact-law as exact_header,
}
use Rattle.sock_diag_records.specs.contracts.unix.response.UnixResponseHeaderPartialEq.TheImpl.{
  ghosts as headers,
}
use Rattle.sock_diag_records.specs.declared.unix.response.TheConstants.{UNIX_RESPONSE_HEADER_LEN}
use Rattle.sock_diag_records.specs.declared.unix.response.UnixResponseHeader.{UnixResponseHeader}
use Rattle.sock_diag_records.specs.UnixResponseHeader.{unix_response_header}
use Rattle.sock_diag_records.specs.laws.UnixResponseHeader.{unix_response_header_sound}
use Rattle.sock_diag_attributes.specs.laws.EqualUnix.{unix_tests}
use Rattle.sock_diag_attributes.specs.UnixAttributes.{unix_attribute_set}
use Rattle.sock_diag_attributes.specs.laws.UnixAttribute.{unix_laws}
use Rattle.sock_diag_replies.specs.laws.EqualResponse.{response_test, response_test_decides}
use Rattle.sock_diag_replies.specs.laws.Header.{header_bytes_suffice, response_laws}
use Rattle.sock_diag_replies.specs.UnixResponseSpec.{unix_response_spec}

unix_header_has_fixed_size : HasFixedSize unix_response_header UNIX_RESPONSE_HEADER_LEN
unix_header_has_fixed_size = (refl, λ tag. refl)

-- bytes with a valid header have at least 16 bytes
pub unix_header_bytes_suffice : (b : List ℕ) (h : UnixResponseHeader)
    → parse_record unix_response_header tt b ≡ Ok h
    → UNIX_RESPONSE_HEADER_LEN ≤ length b
unix_header_bytes_suffice = header_bytes_suffice unix_response_header unix_header_has_fixed_size

-- the codec laws of the header and of the attributes
pub unix_response_laws : ResponseLaws unix_response_spec
unix_response_laws = response_laws unix_response_header unix_header_has_fixed_size
    unix_response_header_sound (λ tag left rest long e. e) unix_laws

-- `==` of two headers is true if and only if they are equal
pub unix_header_equal : (h k : UnixResponseHeader) → IsTrue (headers.eq h k) ↔ (h ≡ k)
unix_header_equal = exact_header.0

-- the test of two replies
abbrev pub unix_test : ReplyValue unix_response_spec → ReplyValue unix_response_spec → Bool
unix_test = response_test headers.eq unix_attribute_set unix_tests

pub unix_test_decides : (v w : ReplyValue unix_response_spec) → IsTrue (unix_test v w) ↔ (v ≡ w)
unix_test_decides = response_test_decides headers.eq unix_attribute_set unix_tests unix_header_equal
