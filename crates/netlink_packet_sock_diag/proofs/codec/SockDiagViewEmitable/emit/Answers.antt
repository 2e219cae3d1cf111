use Rattle.netlink_packet_sock_diag.proofs.codec.SockDiagViewEmitable.emit.Goals as goal

pub emit-requires-clause-writable : goal.emit-requires-clause-writable
emit-requires-clause-writable c = rw c.in-InetResponse.is at c.requires.writable

pub emit-requires-clause-room : goal.emit-requires-clause-room
emit-requires-clause-room c = rw c.in-InetResponse.is at c.requires.room

pub emit-requires-in-UnixResponse-clause-writable :
    goal.emit-requires-in-UnixResponse-clause-writable
emit-requires-in-UnixResponse-clause-writable c =
    rw c.in-UnixResponse.is at c.requires.writable

pub emit-requires-in-UnixResponse-clause-room : goal.emit-requires-in-UnixResponse-clause-room
emit-requires-in-UnixResponse-clause-room c = rw c.in-UnixResponse.is at c.requires.room

pub returns-in-InetResponse-clause-written : goal.returns-in-InetResponse-clause-written
returns-in-InetResponse-clause-written c = rw c.in-InetResponse.is c.emit.ensures.written

pub returns-in-UnixResponse-clause-written : goal.returns-in-UnixResponse-clause-written
returns-in-UnixResponse-clause-written c =
    rw c.in-UnixResponse.is c.emit-in-UnixResponse.ensures.written
