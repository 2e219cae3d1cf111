-- The contents of a reply about a netlink socket: `struct sockdiag_netlink_details`.
use Rattle.std.specs.Prelude.{[], ◌∷◌}
use Rattle.netlink_core.specs.Layout.{parse_record}
use Rattle.sock_diag_families.specs.NetlinkResponseHeader.{netlink_header}
use Rattle.sock_diag_families.specs.declared.netlink.response.NetlinkResponseHeader.{
  NetlinkResponseHeader,
}
use Rattle.sock_diag_any.specs.AnyNla.{AnyValue, read_any}
use Rattle.sock_diag_any.specs.declared.nla.Sockets.TheVariants.{Netlink}
use Rattle.sock_diag_any.specs.AnyParts.{memory_of}
use Rattle.sockdiag_c.specs.AnyParts.{groups_of, netlink_flags_of}
use Rattle.sockdiag_c.specs.Details.{bytes_row, memory_row, number_row}
use Rattle.sockdiag_c.specs.Family.{Family}
use Rattle.sockdiag_c.specs.declared.netlink_details.NetlinkDetails.{NetlinkDetails}

-- Replies about netlink sockets: the header, of `netlink_header.least` bytes; and the memory
-- counters, the bytes of the groups, and the flags
abbrev pub netlink_family : Family NetlinkDetails
netlink_family = record {
  Header = NetlinkResponseHeader;
  parse_header = parse_record netlink_header tt;
  header_size = netlink_header.least;
  header = λ d. d.header;
  Value = AnyValue;
  read = read_any Netlink;
  rows =
      memory_row memory_of (λ d. d.memory)
      ∷ bytes_row groups_of (λ d. d.groups)
      ∷ number_row netlink_flags_of (λ d. d.flags) ∷ [];
}
