use Rattle.netlink_packet_sock_diag.proofs.codec.SockDiagViewEmitable.buffer_len.Goals as goal

pub buffer_len-requires : goal.buffer_len-requires
buffer_len-requires c = rw c.in-InetResponse.is at c.requires

pub buffer_len-requires-in-UnixResponse : goal.buffer_len-requires-in-UnixResponse
buffer_len-requires-in-UnixResponse c = rw c.in-UnixResponse.is at c.requires

pub returns-in-InetResponse : goal.returns-in-InetResponse
returns-in-InetResponse c = rw c.in-InetResponse.is c.buffer_len.ensures

pub returns-in-UnixResponse : goal.returns-in-UnixResponse
returns-in-UnixResponse c = rw c.in-UnixResponse.is c.buffer_len-in-UnixResponse.ensures
