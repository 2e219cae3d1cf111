use Rattle.std.proofs.Common.{◌≡◌, ◌∙◌, ℕ, List, [], ◌++◌, ap, arith, drop, rules, append-nil}
use Rattle.std.specs.Prelude.{replicate}
use Rattle.netlink_core.specs.declared.header.NetlinkHeader.{NetlinkHeader}
use Rattle.sock_diag_records.specs.laws.InetRequest.{inet_request_serializes_to}
use Rattle.sock_diag_records.specs.declared.inet.request.InetRequest.{InetRequest}
use Rattle.sock_diag_filters.specs.Requests.{request_bytes}
use Rattle.sock_diag_filters.specs.Uses.{example_request_header, tcp_request_with}
use Rattle.sock_diag_filters.proofs.Requesting.{request_message_length}
use Rattle.sock_diag_filters.proofs.uses.close_tcp.Goals as goal

pub emit-requires-clause-room : goal.emit-requires-clause-room
emit-requires-clause-room c = omega (arith, request_message_length c.header.result c.tcp.result [])

pub returns-clause-written : goal.returns-clause-written
returns-clause-written c =
    let states : c.from_bits_retain.result.0 ≡ 0xffffffff = search rules in
    let written : List ℕ = request_bytes c.header.result c.tcp.result [] in
    c.emit.ensures.written
    ∙ ap (λ (n : ℕ). written ++ drop n (replicate 72 0))
    (request_message_length c.header.result c.tcp.result [])
    ∙ append-nil written
    ∙ ap (λ (h : NetlinkHeader). request_bytes h c.tcp.result []) c.header.ensures
    ∙ ap (λ (r : InetRequest). request_bytes (example_request_header 21 5 c.args.sequence_number) r
    [])
    c.tcp.ensures
    ∙ ap (λ (n : ℕ). request_bytes (example_request_header 21 5 c.args.sequence_number)
    (tcp_request_with n c.args.socket_id) []) states

pub returns-clause-bytes : goal.returns-clause-bytes
returns-clause-bytes c =
    grind (arith, returns-clause-written c, append-nil, inet_request_serializes_to)
