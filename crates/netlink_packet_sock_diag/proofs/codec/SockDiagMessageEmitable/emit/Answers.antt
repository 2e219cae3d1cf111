use Rattle.netlink_packet_sock_diag.proofs.codec.SockDiagMessageEmitable.emit.Goals as goal

pub returns-in-UnixResponse-clause-in_range : goal.returns-in-UnixResponse-clause-in_range
returns-in-UnixResponse-clause-in_range c =
    rw c.in-UnixResponse.is
    (rw c.deref-in-UnixResponse.ensures at c.emit-in-UnixResponse.ensures.in_range)
