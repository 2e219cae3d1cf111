-- An end of a socket, by its address.
use Rattle.std.specs.Prelude.{ℕ}
use Rattle.std.specs.declared.net.ip_addr.IpAddr.{IpAddr}
use Rattle.sock_diag_filters.specs.Prefixes.{family_of, octets_of}
use Rattle.sock_diag_filters.specs.Sockets.{SocketEnd}

-- `end_of address port`: the end of a socket of the address's family, with this address and port.
abbrev pub end_of : IpAddr → ℕ → SocketEnd
end_of address port =
    record { family = family_of address; port = port; octets = octets_of address }
