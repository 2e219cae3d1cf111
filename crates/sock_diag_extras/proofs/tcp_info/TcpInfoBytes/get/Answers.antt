use Rattle.std.proofs.Common.{arith}
use Rattle.sock_diag_extras.specs.TcpFields.{tcp_bits_of}
use Rattle.sock_diag_extras.proofs.BitFields.{bits_by_mask, whole_number}
use Rattle.sock_diag_extras.proofs.tcp_info.TcpInfoBytes.get.Goals as goal

pub returns-in-Some : goal.returns-in-Some
returns-in-Some c =
    let value = bits_by_mask (tcp_bits_of c.args.field) c.in-Some.shift c.in-Some.mask
    c.in_ok-number.number c.in-Some.ensures.row in
    grind (arith, value)

pub returns-in-None : goal.returns-in-None
returns-in-None c =
    let value = whole_number (tcp_bits_of c.args.field) c.in_ok-number.number
    c.in-None.ensures.row in
    grind (arith, value)
