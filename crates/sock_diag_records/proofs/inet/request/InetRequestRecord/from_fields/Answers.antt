use Rattle.std.proofs.Common.{◌<◌, ◌^◌, ℕ, drop, slice_index, sym, ap, ◌∙◌, arith, Result, Ok}
use Rattle.std.proofs.lemmas.Grind.{common_steps}
use Rattle.std.proofs.lemmas.List.{take_rest}
use Rattle.std.proofs.lemmas.Nat.{and_mask}
use Rattle.std.proofs.Math.Nat.{mod-eq_of_lt}
use Rattle.bitflags.proofs.OnLiterals.{bitflags_on_literals}
use Rattle.netlink_core.proofs.LayoutLaws.{parses_by_fields, parsed_fields}
use Rattle.netlink_core.proofs.Congruence.{◌⊛◌}
use Rattle.netlink_core.specs.declared.error.DecodeError.{DecodeError}
use Rattle.sock_diag_records.specs.SocketId.{socket_id}
use Rattle.sock_diag_records.specs.laws.SocketId.{last_socket_id_values}
use Rattle.sock_diag_records.specs.inverse.SocketId.{socket_id_of}
use Rattle.sock_diag_records.specs.InetRequest.{inet_request}
use Rattle.sock_diag_records.specs.declared.inet.request.InetRequest.{InetRequest}
use Rattle.sock_diag_records.specs.declared.inet.socket_id.SocketId.{SocketId}
use Rattle.sock_diag_records.proofs.inet.request.InetRequestRecord.from_fields.Goals as goal

abbrev found : ℕ → ℕ → ℕ → ℕ → SocketId → Result InetRequest DecodeError
found family protocol extensions states socket =
    Ok record {
      family = family;
      protocol = protocol;
      extensions = record { 0 = extensions };
      states = record { 0 = states };
      socket_id = socket;
    }

pub returns : goal.returns
unfolding inet_request socket_id bitflags_on_literals
returns c =
    let payload = c.args.payload.now in
    let fits = c.type_inv.payload 2 in
    let below : slice_index payload 2 < 2 ^ 8 = omega arith in
    let h = parsed_fields socket_id (slice_index payload 0) (drop 8 payload)
    c.in_ok-socket_id.socket_id (rw take_rest at (sym c.in_ok-socket_id.ensures)) in
    (ap (found (slice_index payload 0) (slice_index payload 1)) (c.from_bits_truncate.ensures tt
    ∙ and_mask (slice_index payload 2) 8 ∙ mod-eq_of_lt below)
    ⊛ rw c.u32s_at.ensures at (c.from_bits_truncate-2.ensures tt)
    ⊛ (h.2 ∙ ap (socket_id_of h.0) (last_socket_id_values 8 payload h.0)))
    ∙ sym (parses_by_fields inet_request tt payload h.0 h.1)

pub from_fields-requires : goal.from_fields-requires
unfolding inet_request socket_id
from_fields-requires c =
    grind (arith, common_steps)

pub returns-in_err-socket_id : goal.returns-in_err-socket_id
unfolding inet_request socket_id
returns-in_err-socket_id c =
    grind (arith, common_steps)
