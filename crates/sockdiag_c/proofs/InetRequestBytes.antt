-- The bytes of requests for internet sockets.
use Rattle.std.proofs.Common.{◌≡◌, ℕ, ◌+◌, ◌<◌, ◌≤◌, List, [], ◌∷◌, ◌++◌, length, arith}
use Rattle.std.proofs.Common.{refl}
use Rattle.std.proofs.lemmas.Bool.{lt-ltb, le-ltb}
use Rattle.byteorder.specs.Endian.{little_bytes}
use Rattle.netlink_core.specs.Layout.{record_bytes}
use Rattle.netlink_core.specs.Header.{header_bytes}
use Rattle.sock_diag_records.specs.declared.inet.request.InetRequest as inet
use Rattle.sock_diag_records.specs.InetRequest.{inet_request}
use Rattle.sock_diag_records.specs.laws.InetRequest.{inet_request_length}
use Rattle.sockdiag_c.specs.declared.requests.InetRequest.{InetRequest}
use Rattle.sockdiag_c.specs.Requests.{WritesMessage, request_header_of, inet_message}
use Rattle.sockdiag_c.specs.Requests.{inet_message_length, inet_request_from_c, protocol_attribute}

-- a protocol below 256 needs no attribute
pub no_attribute : (p : ℕ) → p < 256 → [] ≡ protocol_attribute p
no_attribute p low = rw (lt-ltb p 256 low) refl

pub an_attribute : (p : ℕ) (word : List ℕ) → 256 ≤ p → word ≡ little_bytes 4 p
    → 8 ∷ 0 ∷ 3 ∷ 0 ∷ word ≡ protocol_attribute p
an_attribute p word high is = rw (le-ltb p 256 high, is) refl

-- the message is the header, the record and the attribute
pub message_written : (t : ℕ) (r : InetRequest) (it : inet.InetRequest)
    (attribute old new : List ℕ) (written answer : ℕ)
    → it ≡ inet_request_from_c r → attribute ≡ protocol_attribute r.protocol
    → WritesMessage (16 + length (record_bytes inet_request it) + length attribute)
    (header_bytes (request_header_of (16 + length (record_bytes inet_request it) + length attribute)
    t r.header)
    ++ record_bytes inet_request it ++ attribute)
    (record { old = old; new = new; written = written; returned = answer })
    → WritesMessage (inet_message_length r.protocol) (inet_message t r)
    (record { old = old; new = new; written = written; returned = answer })
message_written t r it attribute old new written answer is found given =
    grind (arith, inet_request_length it)
