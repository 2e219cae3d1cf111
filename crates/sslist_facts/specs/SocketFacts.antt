-- Facts of UNIX, IPv4 and IPv6 sockets, and of the memory of any socket. Names in JSON are the
-- kernel's names in lowercase, without the prefix that all names of a struct or an enum have.
use Rattle.std.specs.Prelude.{ℕ, List, [], ◌∷◌, codes, Some, Option}
use Rattle.sock_diag_values.specs.declared.inet.legacy_mem_info.LegacyMemInfo.{LegacyMemInfo}
use Rattle.sock_diag_values.specs.declared.inet.mem_info.MemInfo.{MemInfo}
use Rattle.sock_diag_extras.specs.declared.congestion.BbrInfo.{BbrInfo}
use Rattle.sock_diag_extras.specs.declared.congestion.DctcpInfo.{DctcpInfo}
use Rattle.sock_diag_extras.specs.declared.congestion.VegasInfo.{VegasInfo}
use Rattle.sslist_facts.specs.Facts.{Facts, flag_number, group, hidden_number, json_group, numbers}
use Rattle.sslist_facts.specs.Facts.{shown_number}
use Rattle.sslist_facts.specs.declared.facts.Shown.TheVariants.{Always, Closed}

-- ---- memory in bytes

-- `memory_group member m backlog drops`: the memory `m` of a socket in bytes, with this backlog in
-- bytes and this number of drops, each left out if it is None. The table shows it as ss(8) does.
-- JSON has it as the object `member`, whose members have the names of the indices SK_MEMINFO_.. of
-- linux/sock_diag.h.
unfoldable pub memory_group : List ℕ → MemInfo → Option ℕ → Option ℕ → Facts
memory_group member m backlog drops =
    group (codes " skmem:(") (codes ")") member (numbers (
    shown_number (codes "r") (codes "rmem_alloc") m.receive_queue ∷
    shown_number (codes ",rb") (codes "rcvbuf") m.receive_queue_max ∷
    shown_number (codes ",t") (codes "wmem_alloc") m.bottom_send_queues ∷
    shown_number (codes ",tb") (codes "sndbuf") m.send_queue_max ∷
    shown_number (codes ",f") (codes "fwd_alloc") m.cache ∷
    shown_number (codes ",w") (codes "wmem_queued") m.send_queue ∷
    shown_number (codes ",o") (codes "optmem") m.options ∷
    (Always, codes ",bl", Some (codes "backlog"), backlog) ∷
    (Always, codes ",d", Some (codes "drops"), drops) ∷ []))

-- `memory_facts member m`: the memory `m` as `memory_group` shows it, with its own backlog and
-- drops, if it has them
abbrev pub memory_facts : List ℕ → MemInfo → Facts
memory_facts member m = memory_group member m m.backlog_queue_length m.drops

-- The memory of a socket in the format of old kernels, `struct inet_diag_meminfo`: `idiag_rmem`,
-- `idiag_wmem`, `idiag_fmem` and `idiag_tmem`.
unfoldable pub legacy_memory_facts : LegacyMemInfo → Facts
legacy_memory_facts m =
    group (codes " mem:(") (codes ")") (codes "meminfo") (numbers (
    shown_number (codes "r") (codes "rmem") m.receive_queue ∷
    shown_number (codes ",w") (codes "wmem") m.bottom_send_queue ∷
    shown_number (codes ",f") (codes "fmem") m.cache ∷
    shown_number (codes ",t") (codes "tmem") m.send_queue ∷ []))

-- ---- UNIX sockets

-- `vfs_facts inode device`: the file of a UNIX socket, `udiag_vfs_ino` and `udiag_vfs_dev`
abbrev pub vfs_facts : ℕ → ℕ → Facts
vfs_facts inode device =
    json_group (codes "vfs") (numbers (
    shown_number (codes " vfs:(") (codes "ino") inode ∷
    (Closed, codes ",", Some (codes "dev"), Some device) ∷ []))

-- `queue_facts receive send`: the lengths of the queues of a UNIX socket, `udiag_rqueue` and
-- `udiag_wqueue`. Only JSON has them here, since the table has columns for them.
abbrev pub queue_facts : ℕ → ℕ → Facts
queue_facts receive send =
    json_group (codes "rqlen") (numbers (
    hidden_number (codes "rqueue") receive ∷ hidden_number (codes "wqueue") send ∷ []))

-- ---- IPv4 and IPv6 sockets

-- `option_facts bits`: the options of a socket, `struct inet_diag_sockopt`. `bits` are its two
-- bytes as a little-endian number. JSON has this number. The table has a name for each bit that is
-- set, in the order of the fields of the struct.
unfoldable pub option_facts : ℕ → Facts
option_facts bits = numbers (
    hidden_number (codes "sockopt") bits ∷
    flag_number 1 (codes " recverr") bits ∷ flag_number 2 (codes " is_icsk") bits ∷
    flag_number 4 (codes " freebind") bits ∷ flag_number 8 (codes " hdrincl") bits ∷
    flag_number 16 (codes " mc_loop") bits ∷ flag_number 32 (codes " transparent") bits ∷
    flag_number 64 (codes " mc_all") bits ∷ flag_number 128 (codes " nodefrag") bits ∷
    flag_number 256 (codes " bind_address_no_port") bits ∷
    flag_number 512 (codes " recverr_rfc4884") bits ∷
    flag_number 1024 (codes " defer_connect") bits ∷ [])

-- the measurements of TCP Vegas, `struct tcpvegas_info`: times in microseconds
unfoldable pub vegas_facts : VegasInfo → Facts
vegas_facts v =
    group (codes " vegas:(") (codes ")") (codes "vegasinfo") (numbers (
    shown_number (codes "enabled:") (codes "enabled") v.enabled ∷
    shown_number (codes ",rttcnt:") (codes "rttcnt") v.rtt_count ∷
    shown_number (codes ",rtt:") (codes "rtt") v.rtt ∷
    shown_number (codes ",minrtt:") (codes "minrtt") v.min_rtt ∷ []))

-- the measurements of DCTCP, `struct tcp_dctcp_info`: `alpha` in 1024ths, `ab_ecn` and `ab_tot` in
-- bytes
unfoldable pub dctcp_facts : DctcpInfo → Facts
dctcp_facts v =
    group (codes " dctcp:(") (codes ")") (codes "dctcpinfo") (numbers (
    shown_number (codes "enabled:") (codes "enabled") v.enabled ∷
    shown_number (codes ",ce_state:") (codes "ce_state") v.ce_state ∷
    shown_number (codes ",alpha:") (codes "alpha") v.alpha ∷
    shown_number (codes ",ab_ecn:") (codes "ab_ecn") v.marked_bytes ∷
    shown_number (codes ",ab_tot:") (codes "ab_tot") v.acked_bytes ∷ []))

-- the measurements of BBR, `struct tcp_bbr_info`: `bw`, which is `bbr_bw_hi` and `bbr_bw_lo` as one
-- number, in bytes per second, `min_rtt` in microseconds, the gains in 256ths
unfoldable pub bbr_facts : BbrInfo → Facts
bbr_facts v =
    group (codes " bbr:(") (codes ")") (codes "bbrinfo") (numbers (
    shown_number (codes "bw:") (codes "bw") v.bandwidth ∷
    shown_number (codes ",mrtt:") (codes "min_rtt") v.min_rtt ∷
    shown_number (codes ",pacing_gain:") (codes "pacing_gain") v.pacing_gain ∷
    shown_number (codes ",cwnd_gain:") (codes "cwnd_gain") v.window_gain ∷ []))
