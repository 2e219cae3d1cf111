use Rattle.std.proofs.Common.{drop, slice_index, sym, ap, ◌∙◌, arith}
use Rattle.std.proofs.lemmas.Grind.{common_steps}
use Rattle.std.proofs.lemmas.List.{take_rest}
use Rattle.netlink_core.proofs.LayoutLaws.{parses_by_fields, parsed_fields}
use Rattle.sock_diag_records.specs.SocketId.{socket_id}
use Rattle.sock_diag_records.specs.inverse.SocketId.{socket_id_of}
use Rattle.sock_diag_records.specs.laws.InetResponse.{inet_response_header_is_from_fields}
use Rattle.sock_diag_records.specs.laws.InetResponse.{versions_with_timer_class, class_lt}
use Rattle.sock_diag_records.specs.InetResponse.{inet_response_header}
use Rattle.sock_diag_records.specs.Timer.{timer_class}
use Rattle.sock_diag_records.specs.laws.SocketId.{nested_socket_id_values}
use Rattle.sock_diag_records.proofs.inet.response.InetResponseHeaderRecord.from_fields.Goals as goal

pub returns : goal.returns
unfolding inet_response_header socket_id
returns c =
    let payload = c.args.payload.now in
    let class = timer_class (slice_index payload 2) in
    let h = parsed_fields socket_id (slice_index payload 0) (drop 4 payload)
    c.in_ok-socket_id.socket_id (rw take_rest at (sym c.in_ok-socket_id.ensures)) in
    let socket = h.2 ∙ ap (socket_id_of h.0) (nested_socket_id_values 4 payload h.0) in
    let read = parses_by_fields inet_response_header tt payload (h.0, class)
    (ap (versions_with_timer_class class) h.1)
    ∙ inet_response_header_is_from_fields payload h.0 class (class_lt (slice_index payload 2)) in
    rw c.timer_from.ensures (rw socket (rw c.u32s_at.ensures (sym read)))

pub from_fields-requires : goal.from_fields-requires
unfolding inet_response_header socket_id
from_fields-requires c =
    grind (arith, common_steps)

pub returns-in_err-socket_id : goal.returns-in_err-socket_id
unfolding inet_response_header socket_id
returns-in_err-socket_id c =
    grind (arith, common_steps)
