-- The inverse of the layout `tcp_info`.
use Rattle.std.specs.Prelude.{ℕ, List, slice_index}
use Rattle.sock_diag_values.specs.declared.inet.tcp_info.TcpInfo.{TcpInfo}

-- `tcp_info_of values`: the value with these numbers in its fields, in the order of the rows of
-- `tcp_info`
abbrev pub tcp_info_of : List ℕ → TcpInfo
tcp_info_of values = record {
  state = slice_index values 0;
  ca_state = slice_index values 1;
  retransmits = slice_index values 2;
  probes = slice_index values 3;
  backoff = slice_index values 4;
  options = slice_index values 5;
  wscale = slice_index values 6;
  delivery_rate_app_limited = slice_index values 7;
  rto = slice_index values 8;
  ato = slice_index values 9;
  snd_mss = slice_index values 10;
  rcv_mss = slice_index values 11;
  unacked = slice_index values 12;
  sacked = slice_index values 13;
  lost = slice_index values 14;
  retrans = slice_index values 15;
  fackets = slice_index values 16;
  last_data_sent = slice_index values 17;
  last_ack_sent = slice_index values 18;
  last_data_recv = slice_index values 19;
  last_ack_recv = slice_index values 20;
  pmtu = slice_index values 21;
  rcv_ssthresh = slice_index values 22;
  rtt = slice_index values 23;
  rttvar = slice_index values 24;
  snd_ssthresh = slice_index values 25;
  snd_cwnd = slice_index values 26;
  advmss = slice_index values 27;
  reordering = slice_index values 28;
  rcv_rtt = slice_index values 29;
  rcv_space = slice_index values 30;
  total_retrans = slice_index values 31;
  pacing_rate = slice_index values 32;
  max_pacing_rate = slice_index values 33;
  bytes_acked = slice_index values 34;
  bytes_received = slice_index values 35;
  segs_out = slice_index values 36;
  segs_in = slice_index values 37;
  notsent_bytes = slice_index values 38;
  min_rtt = slice_index values 39;
  data_segs_in = slice_index values 40;
  data_segs_out = slice_index values 41;
  delivery_rate = slice_index values 42;
  busy_time = slice_index values 43;
  rwnd_limited = slice_index values 44;
  sndbuf_limited = slice_index values 45;
  delivered = slice_index values 46;
  delivered_ce = slice_index values 47;
  bytes_sent = slice_index values 48;
  bytes_retrans = slice_index values 49;
  dsack_dups = slice_index values 50;
  reord_seen = slice_index values 51;
  rcv_ooopack = slice_index values 52;
  snd_wnd = slice_index values 53;
}
