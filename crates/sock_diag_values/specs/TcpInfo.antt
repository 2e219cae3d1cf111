-- The state of a TCP connection, 232 bytes.
use Rattle.std.specs.Prelude.{⊤, List, [], ◌∷◌}
use Rattle.netlink_core.specs.Rows.{Row, u8, u32, u64}
use Rattle.netlink_core.specs.Layout.{Layout, plain}
use Rattle.sock_diag_values.specs.declared.inet.tcp_info.TcpInfo.{TcpInfo}
use Rattle.sock_diag_values.specs.inverse.TcpInfo.{tcp_info_of}
use Rattle.netlink_core.specs.declared.error.RecordName.TheVariants as name

-- `struct tcp_info` (linux/tcp.h) up to `tcpi_snd_wnd`: each member has the name in C without the
-- prefix `tcpi_`. A row is the width of the member, its offset, and the member of the Rust struct.
-- All numbers are little-endian. Two rows are bytes of bit fields, which are not split: `wscale` is
-- `tcpi_snd_wscale` in its low four bits and then `tcpi_rcv_wscale`; `delivery_rate_app_limited` is
-- the member of this name in its lowest bit and then `tcpi_fastopen_client_fail`. Newer kernels
-- append members, which are ignored. Older kernels send fewer than 232 bytes, which are rejected.
abbrev pub tcp_info_rows : List (Row TcpInfo)
tcp_info_rows =
    u8 0 TcpInfo.state ∷
    u8 1 TcpInfo.ca_state ∷
    u8 2 TcpInfo.retransmits ∷
    u8 3 TcpInfo.probes ∷
    u8 4 TcpInfo.backoff ∷
    u8 5 TcpInfo.options ∷
    u8 6 TcpInfo.wscale ∷
    u8 7 TcpInfo.delivery_rate_app_limited ∷
    u32 8 TcpInfo.rto ∷
    u32 12 TcpInfo.ato ∷
    u32 16 TcpInfo.snd_mss ∷
    u32 20 TcpInfo.rcv_mss ∷
    u32 24 TcpInfo.unacked ∷
    u32 28 TcpInfo.sacked ∷
    u32 32 TcpInfo.lost ∷
    u32 36 TcpInfo.retrans ∷
    u32 40 TcpInfo.fackets ∷
    u32 44 TcpInfo.last_data_sent ∷
    u32 48 TcpInfo.last_ack_sent ∷
    u32 52 TcpInfo.last_data_recv ∷
    u32 56 TcpInfo.last_ack_recv ∷
    u32 60 TcpInfo.pmtu ∷
    u32 64 TcpInfo.rcv_ssthresh ∷
    u32 68 TcpInfo.rtt ∷
    u32 72 TcpInfo.rttvar ∷
    u32 76 TcpInfo.snd_ssthresh ∷
    u32 80 TcpInfo.snd_cwnd ∷
    u32 84 TcpInfo.advmss ∷
    u32 88 TcpInfo.reordering ∷
    u32 92 TcpInfo.rcv_rtt ∷
    u32 96 TcpInfo.rcv_space ∷
    u32 100 TcpInfo.total_retrans ∷
    u64 104 TcpInfo.pacing_rate ∷
    u64 112 TcpInfo.max_pacing_rate ∷
    u64 120 TcpInfo.bytes_acked ∷
    u64 128 TcpInfo.bytes_received ∷
    u32 136 TcpInfo.segs_out ∷
    u32 140 TcpInfo.segs_in ∷
    u32 144 TcpInfo.notsent_bytes ∷
    u32 148 TcpInfo.min_rtt ∷
    u32 152 TcpInfo.data_segs_in ∷
    u32 156 TcpInfo.data_segs_out ∷
    u64 160 TcpInfo.delivery_rate ∷
    u64 168 TcpInfo.busy_time ∷
    u64 176 TcpInfo.rwnd_limited ∷
    u64 184 TcpInfo.sndbuf_limited ∷
    u32 192 TcpInfo.delivered ∷
    u32 196 TcpInfo.delivered_ce ∷
    u64 200 TcpInfo.bytes_sent ∷
    u64 208 TcpInfo.bytes_retrans ∷
    u32 216 TcpInfo.dsack_dups ∷
    u32 220 TcpInfo.reord_seen ∷
    u32 224 TcpInfo.rcv_ooopack ∷
    u32 228 TcpInfo.snd_wnd ∷ []

-- The rows as a layout. Arguments of `plain`: the name in errors, the length in bytes, the rows,
-- their inverse, and the condition on arrays (`⊤`, since there are none). The types `Unit {0}`:
-- there is no parameter, and only one tag.
unfoldable pub tcp_info : Layout (Unit {0}) (Unit {0}) TcpInfo
tcp_info = plain name.TcpInfo 232 tcp_info_rows tcp_info_of (λ value. ⊤)
