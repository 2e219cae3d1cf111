-- The contents of a reply about a packet socket: `struct sockdiag_packet_details`.
use Rattle.std.specs.Prelude.{[], ◌∷◌}
use Rattle.netlink_core.specs.Layout.{parse_record}
use Rattle.sock_diag_families.specs.PacketResponseHeader.{packet_header}
use Rattle.sock_diag_families.specs.declared.packet.attributes.PacketInfo.{PacketInfo}
use Rattle.sock_diag_families.specs.declared.packet.attributes.PacketRing.{PacketRing}
use Rattle.sock_diag_families.specs.declared.packet.response.PacketResponseHeader.{
  PacketResponseHeader,
}
use Rattle.sock_diag_any.specs.AnyNla.{AnyValue, read_any}
use Rattle.sock_diag_any.specs.declared.nla.Sockets.TheVariants.{Packet}
use Rattle.sock_diag_any.specs.AnyParts.{memory_of, owner_of, packet_info_of}
use Rattle.sockdiag_c.specs.AnyParts.{fanout_of, filter_of, memberships_of, receive_frames_of}
use Rattle.sockdiag_c.specs.AnyParts.{send_frames_of}
use Rattle.sockdiag_c.specs.Details.{bytes_row, memory_row, number_row, record_row}
use Rattle.sockdiag_c.specs.Family.{Family}
use Rattle.sockdiag_c.specs.declared.packet_details.PacketDetails.{PacketDetails}

-- the settings of a packet socket, all 0: the contents of `info` if the reply has none
abbrev pub zero_packet_info : PacketInfo
zero_packet_info = record {
  interface = 0;
  version = 0;
  reserve = 0;
  copy_threshold = 0;
  timestamp = 0;
  flags = 0;
}

-- a ring of a packet socket, all 0: the contents of a ring field if the reply has no such ring
abbrev pub zero_packet_ring : PacketRing
zero_packet_ring = record {
  block_size = 0;
  blocks = 0;
  frame_size = 0;
  frames = 0;
  retire_timeout = 0;
  private_size = 0;
  features = 0;
}

-- Replies about packet sockets. The header has `packet_header.least` bytes.
abbrev pub packet_family : Family PacketDetails
packet_family = record {
  Header = PacketResponseHeader;
  parse_header = parse_record packet_header tt;
  header_size = packet_header.least;
  header = λ d. d.header;
  Value = AnyValue;
  read = read_any Packet;
  rows =
      record_row packet_info_of zero_packet_info (λ d. (d.has_info, d.info))
      ∷ bytes_row memberships_of (λ d. d.memberships)
      ∷ record_row receive_frames_of zero_packet_ring (λ d. (d.has_receive_ring, d.receive_ring))
      ∷ record_row send_frames_of zero_packet_ring (λ d. (d.has_send_ring, d.send_ring))
      ∷ number_row fanout_of (λ d. d.fanout)
      ∷ number_row owner_of (λ d. d.owner)
      ∷ memory_row memory_of (λ d. d.memory)
      ∷ bytes_row filter_of (λ d. d.filter) ∷ [];
}
