-- The values of attributes of a reply about an XDP socket. More bytes may follow each record: newer
-- kernels append members.
use Rattle.std.specs.Prelude.{ℕ, List, Result}
use Rattle.netlink_core.specs.declared.error.DecodeError.{DecodeError}
use Rattle.netlink_core.specs.declared.error.RecordName.TheVariants.{FamilyAttribute}
use Rattle.sock_diag_families.specs.AttributeGetters.{parse_if_long_enough, u32_at, u64_at}
use Rattle.sock_diag_families.specs.declared.xdp.TheConstants as c
use Rattle.sock_diag_families.specs.declared.xdp.attributes.XdpInfo.{XdpInfo}
use Rattle.sock_diag_families.specs.declared.xdp.attributes.XdpStatistics.{XdpStatistics}
use Rattle.sock_diag_families.specs.declared.xdp.attributes.XdpUmem.{XdpUmem}

-- `parse_xdp_info value`: `Ok` of the `struct xdp_diag_info` (linux/xdp_diag.h) in the first 8
-- bytes of the value of `XDP_DIAG_INFO`, or `Err` of `BufferTooSmall` if there are fewer. Its
-- members are `ifindex` and `queue_id`.
abbrev pub parse_xdp_info : List ℕ → Result XdpInfo DecodeError
parse_xdp_info = parse_if_long_enough (FamilyAttribute c.AF_XDP c.XDP_DIAG_INFO) 8
    (λ bytes. record {
      interface = u32_at 0 bytes;
      queue = u32_at 4 bytes;
    })

-- `xdp_umem_fields bytes`: the `struct xdp_diag_umem` (linux/xdp_diag.h) at the start of at least
-- 40 bytes: `size`, `id`, `num_pages`, `chunk_size`, `headroom`, `ifindex`, `queue_id`, `flags`,
-- `refs`
abbrev pub xdp_umem_fields : List ℕ → XdpUmem
xdp_umem_fields bytes = record {
  size = u64_at 0 bytes;
  id = u32_at 8 bytes;
  pages = u32_at 12 bytes;
  chunk_size = u32_at 16 bytes;
  headroom = u32_at 20 bytes;
  interface = u32_at 24 bytes;
  queue = u32_at 28 bytes;
  flags = u32_at 32 bytes;
  references = u32_at 36 bytes;
}

-- `parse_xdp_umem value`: `Ok` of the record in the value of `XDP_DIAG_UMEM`, if this has at least
-- 40 bytes, else `Err` of `BufferTooSmall`
abbrev pub parse_xdp_umem : List ℕ → Result XdpUmem DecodeError
parse_xdp_umem = parse_if_long_enough (FamilyAttribute c.AF_XDP c.XDP_DIAG_UMEM) 40 xdp_umem_fields

-- `xdp_statistics_fields bytes`: the `struct xdp_diag_stats` (linux/xdp_diag.h) at the start of at
-- least 48 bytes: `n_rx_dropped`, `n_rx_invalid`, `n_rx_full`, `n_fill_ring_empty`, `n_tx_invalid`,
-- `n_tx_ring_empty`
abbrev pub xdp_statistics_fields : List ℕ → XdpStatistics
xdp_statistics_fields bytes = record {
  received_dropped = u64_at 0 bytes;
  received_invalid = u64_at 8 bytes;
  received_full = u64_at 16 bytes;
  fill_ring_empty = u64_at 24 bytes;
  sent_invalid = u64_at 32 bytes;
  send_ring_empty = u64_at 40 bytes;
}

-- `parse_xdp_statistics value`: `Ok` of the record in the value of `XDP_DIAG_STATS`, if this has at
-- least 48 bytes, else `Err` of `BufferTooSmall`
abbrev pub parse_xdp_statistics : List ℕ → Result XdpStatistics DecodeError
parse_xdp_statistics = parse_if_long_enough (FamilyAttribute c.AF_XDP c.XDP_DIAG_STATS) 48
    xdp_statistics_fields
