-- The numbers of the constants that definitions name.
use Rattle.std.proofs.Common.{◌≡◌, refl}
use Rattle.sslist_command_line.specs.declared.options.TheConstants as options

-- numbers of protocols, of linux/in.h
pub protocol_numbers : (options.IPPROTO_TCP ≡ 6) × (options.IPPROTO_UDP ≡ 17)
    × (options.IPPROTO_MPTCP ≡ 262)
protocol_numbers = (refl, refl, refl)
