-- The contents of a reply about an internet socket: `struct sockdiag_inet_details`.
use Rattle.std.specs.Prelude.{List, [], ◌∷◌, option_map}
use Rattle.netlink_core.specs.Errors.{map_ok}
use Rattle.sock_diag_values.specs.declared.inet.legacy_mem_info.LegacyMemInfo.{LegacyMemInfo}
use Rattle.sock_diag_attributes.specs.InetAttributes.{inet_attribute_set}
use Rattle.sock_diag_replies.specs.InetResponseSpec.{inet_response_spec}
use Rattle.sock_diag_any.specs.AnyHeader.{timer_at}
use Rattle.sock_diag_any.specs.AnyNla.{AnyValue}
use Rattle.sock_diag_any.specs.declared.nla.InfoFormat.TheVariants.{Unknown}
use Rattle.sock_diag_any.specs.declared.nla.Sockets.TheVariants.{Inet}
use Rattle.sock_diag_any.specs.AnyParts.{cgroup_id_of, mark_of, memory_of, socket_protocol_of}
use Rattle.sockdiag_c.specs.AnyParts.{class_id_of, congestion_of, legacy_memory_of, options_of}
use Rattle.sockdiag_c.specs.AnyParts.{shutdown_of, tos_of, traffic_class_of, v6_only_of}
use Rattle.sockdiag_c.specs.declared.headers.InetHeader.{InetHeader}
use Rattle.sockdiag_c.specs.declared.inet_details.InetDetails.{InetDetails}
use Rattle.sockdiag_c.specs.declared.inet_details.LegacyMemory.{LegacyMemory}
use Rattle.sockdiag_c.specs.CheckedKinds.{read_checked}
use Rattle.sockdiag_c.specs.Details.{memory_row, number_row, record_row, text_row}
use Rattle.sockdiag_c.specs.Family.{Family, StructRow}
use Rattle.sockdiag_c.specs.Headers.{inet_header_of}

-- `legacy_memory_struct m`: `struct sockdiag_legacy_memory` from `struct inet_diag_meminfo`. Its
-- fields have the names of `struct sockdiag_memory`. In `m` the names of the fields at the offsets
-- 4 and 12 are exchanged.
abbrev pub legacy_memory_struct : LegacyMemInfo → LegacyMemory
legacy_memory_struct m = record {
  receive_queue = m.receive_queue;
  send_queue = m.bottom_send_queue;
  cache = m.cache;
  bottom_send_queues = m.send_queue;
}

-- the memory in the format of old kernels, all 0: the contents of `legacy_memory` if the reply has
-- none
abbrev pub zero_legacy_memory : LegacyMemory
zero_legacy_memory =
    record { receive_queue = 0; send_queue = 0; cache = 0; bottom_send_queues = 0 }

-- One row for each field of the struct after the header
abbrev pub inet_rows : List (StructRow AnyValue InetDetails)
inet_rows =
    text_row congestion_of (λ d. d.congestion)
    ∷ number_row tos_of (λ d. d.tos)
    ∷ number_row traffic_class_of (λ d. d.tclass)
    ∷ number_row shutdown_of (λ d. d.shutdown)
    ∷ number_row socket_protocol_of (λ d. d.protocol)
    ∷ number_row v6_only_of (λ d. d.v6only)
    ∷ number_row mark_of (λ d. d.mark)
    ∷ number_row class_id_of (λ d. d.class_id)
    ∷ memory_row memory_of (λ d. d.memory)
    ∷ record_row (λ v. option_map legacy_memory_struct (legacy_memory_of v)) zero_legacy_memory
    (λ d. (d.has_legacy_memory, d.legacy_memory))
    ∷ record_row cgroup_id_of 0 (λ d. (d.has_cgroup_id, d.cgroup_id))
    ∷ number_row options_of (λ d. d.options)
    ∷ []

-- Replies about IPv4 and IPv6 sockets. An attribute that `inet_attribute_set` rejects is rejected,
-- also one without a field, such as a short `INET_DIAG_INFO`.
abbrev pub inet_family : Family InetDetails
inet_family = record {
  Header = InetHeader;
  parse_header = λ payload. map_ok (inet_header_of (timer_at payload))
      (inet_response_spec.header.parses tt payload);
  header_size = inet_response_spec.size;
  header = λ d. d.header;
  Value = AnyValue;
  read = read_checked inet_attribute_set (Inet Unknown);
  rows = inet_rows;
}
