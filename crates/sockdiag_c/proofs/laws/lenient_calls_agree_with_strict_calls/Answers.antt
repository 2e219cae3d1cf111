use Rattle.sockdiag_c.specs.InetDetails.{inet_family}
use Rattle.sockdiag_c.specs.NetlinkDetails.{netlink_family}
use Rattle.sockdiag_c.specs.PacketDetails.{packet_family}
use Rattle.sockdiag_c.specs.UnixDetails.{unix_family}
use Rattle.sockdiag_c.specs.VsockDetails.{vsock_family}
use Rattle.sockdiag_c.specs.XdpDetails.{xdp_family}
use Rattle.sockdiag_c.proofs.Agreement.{calls_agree}
use Rattle.sockdiag_c.proofs.laws.lenient_calls_agree_with_strict_calls.Goals as goal

pub returns-clause-unix : goal.returns-clause-unix
returns-clause-unix c = calls_agree unix_family

pub returns-clause-inet : goal.returns-clause-inet
returns-clause-inet c = calls_agree inet_family

pub returns-clause-netlink : goal.returns-clause-netlink
returns-clause-netlink c = calls_agree netlink_family

pub returns-clause-packet : goal.returns-clause-packet
returns-clause-packet c = calls_agree packet_family

pub returns-clause-vsock : goal.returns-clause-vsock
returns-clause-vsock c = calls_agree vsock_family

pub returns-clause-xdp : goal.returns-clause-xdp
returns-clause-xdp c = calls_agree xdp_family
