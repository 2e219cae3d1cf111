use Rattle.std.proofs.Common.{ap, ℕ, List, slice_index, Result, Ok}
use Rattle.netlink_core.proofs.Congruence.{◌⊛◌}
use Rattle.netlink_core.specs.declared.error.DecodeError.{DecodeError}
use Rattle.sock_diag_values.specs.declared.inet.tcp_info.TcpInfo.{TcpInfo}
use Rattle.sock_diag_values.specs.TcpInfo.{tcp_info}
use Rattle.sock_diag_values.proofs.inet.tcp_info.TcpInfoRecord.from_fields.Goals as goal

-- the value with these numbers in its fields, by groups of consecutive fields of one width
abbrev with_fields : (u8s_at_0 u32s_at_8 u32s_at_44 u32s_at_60 u32s_at_92 u64s_at_104
    u32s_at_136 u64s_at_160 u32s_at_192 u64s_at_200 u32s_at_216 : List ℕ) → TcpInfo
with_fields u8s_at_0 u32s_at_8 u32s_at_44 u32s_at_60 u32s_at_92 u64s_at_104 u32s_at_136 u64s_at_160
    u32s_at_192 u64s_at_200 u32s_at_216 =
    record {
      state = slice_index u8s_at_0 0;
      ca_state = slice_index u8s_at_0 1;
      retransmits = slice_index u8s_at_0 2;
      probes = slice_index u8s_at_0 3;
      backoff = slice_index u8s_at_0 4;
      options = slice_index u8s_at_0 5;
      wscale = slice_index u8s_at_0 6;
      delivery_rate_app_limited = slice_index u8s_at_0 7;
      rto = slice_index u32s_at_8 0;
      ato = slice_index u32s_at_8 1;
      snd_mss = slice_index u32s_at_8 2;
      rcv_mss = slice_index u32s_at_8 3;
      unacked = slice_index u32s_at_8 4;
      sacked = slice_index u32s_at_8 5;
      lost = slice_index u32s_at_8 6;
      retrans = slice_index u32s_at_8 7;
      fackets = slice_index u32s_at_8 8;
      last_data_sent = slice_index u32s_at_44 0;
      last_ack_sent = slice_index u32s_at_44 1;
      last_data_recv = slice_index u32s_at_44 2;
      last_ack_recv = slice_index u32s_at_44 3;
      pmtu = slice_index u32s_at_60 0;
      rcv_ssthresh = slice_index u32s_at_60 1;
      rtt = slice_index u32s_at_60 2;
      rttvar = slice_index u32s_at_60 3;
      snd_ssthresh = slice_index u32s_at_60 4;
      snd_cwnd = slice_index u32s_at_60 5;
      advmss = slice_index u32s_at_60 6;
      reordering = slice_index u32s_at_60 7;
      rcv_rtt = slice_index u32s_at_92 0;
      rcv_space = slice_index u32s_at_92 1;
      total_retrans = slice_index u32s_at_92 2;
      pacing_rate = slice_index u64s_at_104 0;
      max_pacing_rate = slice_index u64s_at_104 1;
      bytes_acked = slice_index u64s_at_104 2;
      bytes_received = slice_index u64s_at_104 3;
      segs_out = slice_index u32s_at_136 0;
      segs_in = slice_index u32s_at_136 1;
      notsent_bytes = slice_index u32s_at_136 2;
      min_rtt = slice_index u32s_at_136 3;
      data_segs_in = slice_index u32s_at_136 4;
      data_segs_out = slice_index u32s_at_136 5;
      delivery_rate = slice_index u64s_at_160 0;
      busy_time = slice_index u64s_at_160 1;
      rwnd_limited = slice_index u64s_at_160 2;
      sndbuf_limited = slice_index u64s_at_160 3;
      delivered = slice_index u32s_at_192 0;
      delivered_ce = slice_index u32s_at_192 1;
      bytes_sent = slice_index u64s_at_200 0;
      bytes_retrans = slice_index u64s_at_200 1;
      dsack_dups = slice_index u32s_at_216 0;
      reord_seen = slice_index u32s_at_216 1;
      rcv_ooopack = slice_index u32s_at_216 2;
      snd_wnd = slice_index u32s_at_216 3;
    }

abbrev found : TcpInfo → Result TcpInfo DecodeError
found value = Ok value

pub returns : goal.returns
unfolding tcp_info
returns c =
    ap found (ap with_fields c.array_at-u8s_at_0.ensures
    ⊛ c.u32s_at-u32s_at_8.ensures
    ⊛ c.u32s_at-u32s_at_44.ensures
    ⊛ c.u32s_at-u32s_at_60.ensures
    ⊛ c.u32s_at-u32s_at_92.ensures
    ⊛ c.u64s_at-u64s_at_104.ensures
    ⊛ c.u32s_at-u32s_at_136.ensures
    ⊛ c.u64s_at-u64s_at_160.ensures
    ⊛ c.u32s_at-u32s_at_192.ensures
    ⊛ c.u64s_at-u64s_at_200.ensures
    ⊛ c.u32s_at-u32s_at_216.ensures)
