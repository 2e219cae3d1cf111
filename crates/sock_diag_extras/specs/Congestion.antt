-- Records of the congestion control algorithms of a TCP socket. A row such as `u32 4 field` is a
-- little-endian `u32` at offset 4. `value` makes the record of the numbers in its rows, in their
-- order. No record has an array, so `arrays_fit` always holds (`⊤`).
use Rattle.std.specs.Prelude.{⊤, [], ◌∷◌, slice_index}
use Rattle.sock_diag_extras.specs.RecordTable.{RecordTable}
use Rattle.sock_diag_extras.specs.declared.congestion.VegasInfo.{VegasInfo}
use Rattle.sock_diag_extras.specs.declared.congestion.DctcpInfo.{DctcpInfo}
use Rattle.sock_diag_extras.specs.declared.congestion.BbrInfo.{BbrInfo}
use Rattle.netlink_core.specs.Rows.{u16, u32, u64}

-- `struct tcpvegas_info` (linux/inet_diag.h), 16 bytes: `tcpv_enabled`, `tcpv_rttcnt`, `tcpv_rtt`
-- and `tcpv_minrtt`.
abbrev pub vegas_info : RecordTable VegasInfo
vegas_info = record {
  size = 16;
  rows =
      u32 0 VegasInfo.enabled ∷
      u32 4 VegasInfo.rtt_count ∷
      u32 8 VegasInfo.rtt ∷
      u32 12 VegasInfo.min_rtt ∷ [];
  value = λ numbers. record {
    enabled = slice_index numbers 0;
    rtt_count = slice_index numbers 1;
    rtt = slice_index numbers 2;
    min_rtt = slice_index numbers 3;
  };
  arrays_fit = λ _. ⊤;
}

-- `struct tcp_dctcp_info` (linux/inet_diag.h), 16 bytes: `dctcp_enabled`, `dctcp_ce_state`,
-- `dctcp_alpha`, `dctcp_ab_ecn` and `dctcp_ab_tot`.
abbrev pub dctcp_info : RecordTable DctcpInfo
dctcp_info = record {
  size = 16;
  rows =
      u16 0 DctcpInfo.enabled ∷
      u16 2 DctcpInfo.ce_state ∷
      u32 4 DctcpInfo.alpha ∷
      u32 8 DctcpInfo.marked_bytes ∷
      u32 12 DctcpInfo.acked_bytes ∷ [];
  value = λ numbers. record {
    enabled = slice_index numbers 0;
    ce_state = slice_index numbers 1;
    alpha = slice_index numbers 2;
    marked_bytes = slice_index numbers 3;
    acked_bytes = slice_index numbers 4;
  };
  arrays_fit = λ _. ⊤;
}

-- `struct tcp_bbr_info` (linux/inet_diag.h), 20 bytes: `bbr_bw_lo` and `bbr_bw_hi`, which are the
-- low and the high half of one number, then `bbr_min_rtt`, `bbr_pacing_gain` and `bbr_cwnd_gain`.
abbrev pub bbr_info : RecordTable BbrInfo
bbr_info = record {
  size = 20;
  rows =
      u64 0 BbrInfo.bandwidth ∷
      u32 8 BbrInfo.min_rtt ∷
      u32 12 BbrInfo.pacing_gain ∷
      u32 16 BbrInfo.window_gain ∷ [];
  value = λ numbers. record {
    bandwidth = slice_index numbers 0;
    min_rtt = slice_index numbers 1;
    pacing_gain = slice_index numbers 2;
    window_gain = slice_index numbers 3;
  };
  arrays_fit = λ _. ⊤;
}
