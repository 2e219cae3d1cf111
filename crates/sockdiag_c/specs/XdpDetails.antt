-- The contents of a reply about an XDP socket: `struct sockdiag_xdp_details`.
use Rattle.std.specs.Prelude.{[], ◌∷◌}
use Rattle.netlink_core.specs.Layout.{parse_record}
use Rattle.sock_diag_families.specs.XdpResponseHeader.{xdp_header}
use Rattle.sock_diag_families.specs.declared.xdp.attributes.XdpInfo.{XdpInfo}
use Rattle.sock_diag_families.specs.declared.xdp.attributes.XdpStatistics.{XdpStatistics}
use Rattle.sock_diag_families.specs.declared.xdp.attributes.XdpUmem.{XdpUmem}
use Rattle.sock_diag_families.specs.declared.xdp.response.XdpResponseHeader.{XdpResponseHeader}
use Rattle.sock_diag_any.specs.AnyNla.{AnyValue, read_any}
use Rattle.sock_diag_any.specs.declared.nla.Sockets.TheVariants.{Xdp}
use Rattle.sock_diag_any.specs.AnyParts.{memory_of, owner_of, xdp_info_of}
use Rattle.sockdiag_c.specs.AnyParts.{completion_ring_of, fill_ring_of, receive_ring_of}
use Rattle.sockdiag_c.specs.AnyParts.{send_ring_of, statistics_of, umem_of}
use Rattle.sockdiag_c.specs.Details.{memory_row, number_row, record_row}
use Rattle.sockdiag_c.specs.Family.{Family}
use Rattle.sockdiag_c.specs.declared.xdp_details.XdpDetails.{XdpDetails}

-- an interface and a queue, both 0: the contents of `info` if the reply has none
abbrev pub zero_xdp_info : XdpInfo
zero_xdp_info = record { interface = 0; queue = 0 }

-- shared memory, all 0: the contents of `umem` if the reply has none
abbrev pub zero_xdp_umem : XdpUmem
zero_xdp_umem = record {
  size = 0;
  id = 0;
  pages = 0;
  chunk_size = 0;
  headroom = 0;
  interface = 0;
  queue = 0;
  flags = 0;
  references = 0;
}

-- counters of a socket, all 0: the contents of `statistics` if the reply has none
abbrev pub zero_xdp_statistics : XdpStatistics
zero_xdp_statistics = record {
  received_dropped = 0;
  received_invalid = 0;
  received_full = 0;
  fill_ring_empty = 0;
  sent_invalid = 0;
  send_ring_empty = 0;
}

-- Replies about XDP sockets. The header has `xdp_header.least` bytes.
abbrev pub xdp_family : Family XdpDetails
xdp_family = record {
  Header = XdpResponseHeader;
  parse_header = parse_record xdp_header tt;
  header_size = xdp_header.least;
  header = λ d. d.header;
  Value = AnyValue;
  read = read_any Xdp;
  rows =
      record_row xdp_info_of zero_xdp_info (λ d. (d.has_info, d.info))
      ∷ number_row owner_of (λ d. d.owner)
      ∷ number_row receive_ring_of (λ d. d.receive_ring)
      ∷ number_row send_ring_of (λ d. d.send_ring)
      ∷ record_row umem_of zero_xdp_umem (λ d. (d.has_umem, d.umem))
      ∷ number_row fill_ring_of (λ d. d.fill_ring)
      ∷ number_row completion_ring_of (λ d. d.completion_ring)
      ∷ memory_row memory_of (λ d. d.memory)
      ∷ record_row statistics_of zero_xdp_statistics (λ d. (d.has_statistics, d.statistics)) ∷ [];
}
