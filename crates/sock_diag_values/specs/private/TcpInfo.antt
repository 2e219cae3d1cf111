-- The fields of `tcp_info` in groups of consecutive fields of one width: the numbers of a value in
-- each group. `numbers_of tcp_info_rows value` are the numbers of the value in all fields, in
-- order: `drop` skips the fields before a group, and `take` the fields after it.
use Rattle.std.specs.Prelude.{ℕ, List, take, drop}
use Rattle.sock_diag_values.specs.declared.inet.tcp_info.TcpInfo.{TcpInfo}
use Rattle.sock_diag_values.specs.TcpInfo.{tcp_info_rows}
use Rattle.netlink_core.specs.Rows.{numbers_of}

-- `u8s_at_0 value`: the numbers in the eight `u8` at offset 0
abbrev pub u8s_at_0 : TcpInfo → List ℕ
u8s_at_0 value = take 8 (numbers_of tcp_info_rows value)

-- `u32s_at_8 value`: the numbers in the nine `u32` at offset 8 (8 fields precede them)
abbrev pub u32s_at_8 : TcpInfo → List ℕ
u32s_at_8 value = take 9 (drop 8 (numbers_of tcp_info_rows value))

-- `u32s_at_44 value`: the numbers in the four `u32` at offset 44 (17 fields precede them)
abbrev pub u32s_at_44 : TcpInfo → List ℕ
u32s_at_44 value = take 4 (drop 17 (numbers_of tcp_info_rows value))

-- `u32s_at_60 value`: the numbers in the eight `u32` at offset 60 (21 fields precede them)
abbrev pub u32s_at_60 : TcpInfo → List ℕ
u32s_at_60 value = take 8 (drop 21 (numbers_of tcp_info_rows value))

-- `u32s_at_92 value`: the numbers in the three `u32` at offset 92 (29 fields precede them)
abbrev pub u32s_at_92 : TcpInfo → List ℕ
u32s_at_92 value = take 3 (drop 29 (numbers_of tcp_info_rows value))

-- `u64s_at_104 value`: the numbers in the four `u64` at offset 104 (32 fields precede them)
abbrev pub u64s_at_104 : TcpInfo → List ℕ
u64s_at_104 value = take 4 (drop 32 (numbers_of tcp_info_rows value))

-- `u32s_at_136 value`: the numbers in the six `u32` at offset 136 (36 fields precede them)
abbrev pub u32s_at_136 : TcpInfo → List ℕ
u32s_at_136 value = take 6 (drop 36 (numbers_of tcp_info_rows value))

-- `u64s_at_160 value`: the numbers in the four `u64` at offset 160 (42 fields precede them)
abbrev pub u64s_at_160 : TcpInfo → List ℕ
u64s_at_160 value = take 4 (drop 42 (numbers_of tcp_info_rows value))

-- `u32s_at_192 value`: the numbers in the two `u32` at offset 192 (46 fields precede them)
abbrev pub u32s_at_192 : TcpInfo → List ℕ
u32s_at_192 value = take 2 (drop 46 (numbers_of tcp_info_rows value))

-- `u64s_at_200 value`: the numbers in the two `u64` at offset 200 (48 fields precede them)
abbrev pub u64s_at_200 : TcpInfo → List ℕ
u64s_at_200 value = take 2 (drop 48 (numbers_of tcp_info_rows value))

-- `u32s_at_216 value`: the numbers in the four `u32` at offset 216 (50 fields precede them)
abbrev pub u32s_at_216 : TcpInfo → List ℕ
u32s_at_216 value = take 4 (drop 50 (numbers_of tcp_info_rows value))
