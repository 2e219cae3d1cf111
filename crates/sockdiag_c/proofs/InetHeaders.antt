-- The header of a reply about an internet socket, and the addresses in it.
use Rattle.std.proofs.Common.{◌≡◌, ◌∙◌, ◌≤◌, ◌+◌, ◌*◌, ℕ, zero, suc, List, [], ◌++◌, refl, sym}
use Rattle.std.proofs.Common.{Ok, ap, ap₂, arith, drop, length, take}
use Rattle.std.proofs.Math.Seq.{take-add}
use Rattle.std.proofs.lemmas.List.{append-nil, drop-drop, length-drop}
use Rattle.byteorder.specs.Endian.{big_bytes, big_number}
use Rattle.netlink_core.specs.Bytes.{IsBytes}
use Rattle.netlink_core.specs.Layout.{parse_record}
use Rattle.netlink_core.specs.Table.{array, bytes_of, first_numbers, network, values_of}
use Rattle.netlink_core.proofs.FieldReads.{first_numbers_are_all}
use Rattle.netlink_core.proofs.Numbers.{big_endian, bytes_in-bytes, length-bytes_in, number-fits}
use Rattle.netlink_core.proofs.Numbers.{number-reads_back, number-same}
use Rattle.netlink_core.proofs.TableLaws.{AreBytes-drop}
use Rattle.sock_diag_records.specs.declared.inet.response.InetResponseHeader.{InetResponseHeader}
use Rattle.sock_diag_records.specs.InetResponse.{inet_response_header}
use Rattle.sock_diag_records.specs.IpVersions.{ipv6}
use Rattle.sock_diag_records.specs.SocketId.{address_fields}
use Rattle.sock_diag_replies.specs.laws.InetResponseSpec.{inet_header_bytes_suffice}
use Rattle.sockdiag_c.specs.declared.headers.TheConstants.{DESTINATION_ADDRESS, SOURCE_ADDRESS}
use Rattle.sockdiag_c.specs.private.Headers.{HasAddressAt}

-- a payload with a valid header is at least as long as the header
pub ruleset inet_header_rules = (inet_header_bytes_suffice)

-- a parsed header has the addresses that are at their offsets
pub parsed_addresses : (b : List ℕ) (h : InetResponseHeader)
    → parse_record inet_response_header tt b ≡ Ok h
    → HasAddressAt SOURCE_ADDRESS b h.socket_id.source_address
    × HasAddressAt DESTINATION_ADDRESS b h.socket_id.destination_address
unfolding inet_response_header
parsed_addresses b h e = grind (arith)

-- a number in network byte order is written as the bytes that it was read from
pair_back : (xs : List ℕ) → IsBytes xs → 2 ≤ length xs → big_bytes 2 (big_number 2 xs) ≡ take 2 xs
pair_back xs bytes long =
    let n = big_number 2 xs in
    let written = big_bytes 2 n in
    grind (
      arith,
      append-nil written,
      length-bytes_in big_endian 2 n,
      number-reads_back big_endian 2 n [] (number-fits big_endian 2 xs bytes),
      number-same big_endian 2 written xs (bytes_in-bytes big_endian 2 n) bytes,
    )

segments_back : (at offset count : ℕ) (b : List ℕ) → IsBytes b → offset + 2 * count ≤ length b
    → bytes_of (array network at 2 count) (values_of (array network offset 2 count) b)
    ≡ take (2 * count) (drop offset b)
segments_back at offset zero b bytes long = refl
segments_back at offset (suc count) b bytes long =
    let enough : 2 ≤ length (drop offset b) = rw length-drop (omega arith) in
    let pair = pair_back (drop offset b) (AreBytes-drop offset b bytes) enough in
    let others = segments_back (at + 2) (offset + 2) count b bytes (omega arith) in
    let total : 2 * suc count ≡ 2 + 2 * count = omega arith in
    ap₂ (◌++◌) pair (others ∙ sym (ap (take (2 * count)) (drop-drop 2 offset b)))
    ∙ sym (ap (λ (n : ℕ). take n (drop offset b)) total ∙ take-add 2 (2 * count) (drop offset b))

-- an IPv6 address is written as the sixteen bytes that it was read from
pub ipv6_octets_back : (offset : ℕ) (b segments : List ℕ) → IsBytes b → offset + 16 ≤ length b
    → segments ≡ values_of (address_fields offset ipv6) b
    → bytes_of (address_fields 0 ipv6) (first_numbers 8 segments) ≡ take 16 (drop offset b)
ipv6_octets_back offset b segments bytes long is =
    let all : first_numbers 8 segments ≡ segments =
    first_numbers_are_all 8 segments (ap length is) in
    ap (bytes_of (address_fields 0 ipv6)) (all ∙ is) ∙ segments_back 0 offset 8 b bytes long
