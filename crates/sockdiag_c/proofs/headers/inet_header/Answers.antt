use Rattle.std.proofs.Common.{◌≤◌, length, arith}
use Rattle.sock_diag_replies.specs.laws.InetResponseSpec.{inet_header_bytes_suffice}
use Rattle.sockdiag_c.proofs.InetHeaders.{parsed_addresses}
use Rattle.sockdiag_c.proofs.headers.inet_header.Goals as goal

pub parse-timer-requires : goal.parse-timer-requires
parse-timer-requires c = inet_header_bytes_suffice _ _ c.requires

pub address_octets-requires-clause-within : goal.address_octets-requires-clause-within
address_octets-requires-clause-within c =
    let long : 72 ≤ length c.args.payload.now = inet_header_bytes_suffice _ _ c.requires in
    omega (arith, long)

pub address_octets-requires-clause-address : goal.address_octets-requires-clause-address
address_octets-requires-clause-address c = (parsed_addresses _ _ c.requires).0

pub address_octets-requires-2-clause-within : goal.address_octets-requires-2-clause-within
address_octets-requires-2-clause-within c =
    let long : 72 ≤ length c.args.payload.now = inet_header_bytes_suffice _ _ c.requires in
    omega (arith, long)

pub address_octets-requires-2-clause-address : goal.address_octets-requires-2-clause-address
address_octets-requires-2-clause-address c = (parsed_addresses _ _ c.requires).1
