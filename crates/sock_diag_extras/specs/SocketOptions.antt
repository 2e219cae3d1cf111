-- The options of an IPv4 or IPv6 socket, in INET_DIAG_SOCKOPT.
use Rattle.std.specs.Prelude.{⊤, ℕ, [], ◌∷◌, slice_index}
use Rattle.sock_diag_extras.specs.RecordTable.{RecordTable}
use Rattle.sock_diag_extras.specs.declared.options.SocketOption.{SocketOption}
use Rattle.sock_diag_extras.specs.declared.options.SocketOption.TheVariants as option
use Rattle.sock_diag_extras.specs.declared.options.SocketOptions.{SocketOptions}
use Rattle.netlink_core.specs.Rows.{u16}

-- `struct inet_diag_sockopt` (linux/inet_diag.h): two bytes of bit fields as one little-endian
-- number. `value` makes the record of the number in its only row. The record has no array, so
-- `arrays_fit` always holds (`⊤`).
abbrev pub socket_options : RecordTable SocketOptions
socket_options = record {
  size = 2;
  rows = u16 0 SocketOptions.bits ∷ [];
  value = λ numbers. record { bits = slice_index numbers 0 };
  arrays_fit = λ _. ⊤;
}

-- `bit_of option`: the index of the option's bit in `bits`, in the order of the C struct's members.
-- Bits 0 to 7 are the first byte, from its least significant bit on, and bits 8 to 10 are in the
-- second.
abbrev pub bit_of : SocketOption → ℕ
bit_of option.RecvErr = 0
bit_of option.IsIcsk = 1
bit_of option.FreeBind = 2
bit_of option.HdrIncl = 3
bit_of option.McLoop = 4
bit_of option.Transparent = 5
bit_of option.McAll = 6
bit_of option.NoDefrag = 7
bit_of option.BindAddressNoPort = 8
bit_of option.RecvErrRfc4884 = 9
bit_of option.DeferConnect = 10
