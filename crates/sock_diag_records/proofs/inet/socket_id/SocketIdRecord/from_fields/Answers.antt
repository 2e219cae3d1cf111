use Rattle.std.proofs.Common.{ℕ, List, slice_index, sym, ap, ◌∙◌, Result, Ok}
use Rattle.std.specs.declared.net.ip_addr.IpAddr.{IpAddr}
use Rattle.std.specs.declared.net.ip_addr.IpAddr.TheVariants.{V4, V6}
use Rattle.netlink_core.proofs.LayoutLaws.{parses_by_fields}
use Rattle.netlink_core.proofs.Congruence.{◌⊛◌}
use Rattle.sock_diag_records.specs.SocketId.{socket_id}
use Rattle.sock_diag_records.specs.IpVersions.{ipv4, ipv6, versions_of_family}
use Rattle.sock_diag_records.specs.declared.inet.socket_id.SocketId.{SocketId}
use Rattle.netlink_core.specs.declared.error.DecodeError.{DecodeError}
use Rattle.sock_diag_records.proofs.inet.socket_id.SocketIdRecord.from_fields.Goals as goal
use Rattle.sock_diag_records.proofs.inet.socket_id.SocketIdRecord.from_fields.Goals.{in-2, in-10}

abbrev found : List ℕ → IpAddr × IpAddr → List ℕ → List ℕ → Result SocketId DecodeError
found ports addresses interface cookie = Ok record {
  source_port = slice_index ports 0;
  destination_port = slice_index ports 1;
  source_address = addresses.0;
  destination_address = addresses.1;
  interface_id = slice_index interface 0;
  cookie = cookie;
}

abbrev v4 : List ℕ → List ℕ → IpAddr × IpAddr
v4 source destination = (V4 record { octets = source }, V4 record { octets = destination })

abbrev v6 : List ℕ → List ℕ → IpAddr × IpAddr
v6 source destination = (V6 record { segments = source }, V6 record { segments = destination })

pub returns : goal.returns
unfolding socket_id
returns c =
    elim c.match-family.branch [
      | in-2 w ↦ (ap found c.u16s_be_at.ensures
          ⊛ (w.source_address-is ∙ (ap v4 w.ipv4_at.ensures ⊛ w.ipv4_at-in-2.ensures))
          ⊛ c.u32s_at.ensures ⊛ c.array_at.ensures)
          ∙ sym (parses_by_fields socket_id c.args.family c.args.payload.now (ipv4, ipv4)
          (ap versions_of_family w.in-2.is))
      | in-10 w ↦ (ap found c.u16s_be_at.ensures
          ⊛ (w.source_address-is ∙ (ap v6 w.ipv6_at.ensures ⊛ w.ipv6_at-in-10.ensures))
          ⊛ c.u32s_at.ensures ⊛ c.array_at.ensures)
          ∙ sym (parses_by_fields socket_id c.args.family c.args.payload.now (ipv6, ipv6)
          (ap versions_of_family w.in-10.is))
    ]
