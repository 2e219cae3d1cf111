-- The values of attributes of a reply about a packet socket. More bytes may follow each record:
-- newer kernels append members.
use Rattle.std.specs.Prelude.{ℕ, List, Result}
use Rattle.netlink_core.specs.declared.error.DecodeError.{DecodeError}
use Rattle.netlink_core.specs.declared.error.RecordName.TheVariants.{FamilyAttribute}
use Rattle.sock_diag_records.specs.declared.constants.TheConstants.{AF_PACKET}
use Rattle.sock_diag_families.specs.declared.packet.TheConstants.{PACKET_DIAG_INFO}
use Rattle.sock_diag_families.specs.AttributeGetters.{parse_if_long_enough, u32_at}
use Rattle.sock_diag_families.specs.declared.packet.attributes.PacketInfo.{PacketInfo}
use Rattle.sock_diag_families.specs.declared.packet.attributes.PacketRing.{PacketRing}

-- `parse_packet_info value`: `Ok` of the `struct packet_diag_info` (linux/packet_diag.h) in the
-- first 24 bytes of the value of `PACKET_DIAG_INFO`, or `Err` of `BufferTooSmall` if there are
-- fewer. Its members are `pdi_index`, `pdi_version`, `pdi_reserve`, `pdi_copy_thresh`, `pdi_tstamp`
-- and `pdi_flags`.
abbrev pub parse_packet_info : List ℕ → Result PacketInfo DecodeError
parse_packet_info = parse_if_long_enough (FamilyAttribute AF_PACKET PACKET_DIAG_INFO) 24
    (λ bytes. record {
      interface = u32_at 0 bytes;
      version = u32_at 4 bytes;
      reserve = u32_at 8 bytes;
      copy_threshold = u32_at 12 bytes;
      timestamp = u32_at 16 bytes;
      flags = u32_at 20 bytes;
    })

-- `parse_packet_ring kind value`: `Ok` of the `struct packet_diag_ring` (linux/packet_diag.h) in
-- the first 28 bytes of the value, or `Err` of `BufferTooSmall` if there are fewer. Its members are
-- `pdr_block_size`, `pdr_block_nr`, `pdr_frame_size`, `pdr_frame_nr`, `pdr_retire_tmo`,
-- `pdr_sizeof_priv` and `pdr_features`. The kind of the attribute is `PACKET_DIAG_RX_RING` or
-- `PACKET_DIAG_TX_RING`. Only the error depends on it.
abbrev pub parse_packet_ring : (kind : ℕ) → List ℕ → Result PacketRing DecodeError
parse_packet_ring kind = parse_if_long_enough (FamilyAttribute AF_PACKET kind) 28
    (λ bytes. record {
      block_size = u32_at 0 bytes;
      blocks = u32_at 4 bytes;
      frame_size = u32_at 8 bytes;
      frames = u32_at 12 bytes;
      retire_timeout = u32_at 16 bytes;
      private_size = u32_at 20 bytes;
      features = u32_at 24 bytes;
    })
