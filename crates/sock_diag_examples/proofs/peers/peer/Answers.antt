use Rattle.netlink_core.specs.Walk.{buffered_attribute}
use Rattle.sock_diag_examples.proofs.PeerValues.{peer_value}
use Rattle.sock_diag_examples.proofs.peers.peer.Goals as goal

pub returns-in-Ok-Peer : goal.returns-in-Ok-Peer
returns-in-Ok-Peer c =
    let said = rw (c.in-Ok-Peer.is, c.in-Ok-Peer.field-0-is) at c.parse.ensures in
    let told = peer_value (buffered_attribute c.args.nla.now) c.in-Ok-Peer.inode said in
    ((told.0, told.1), told.2)
