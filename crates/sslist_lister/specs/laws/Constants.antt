-- The numbers of the constants that definitions name.
use Rattle.std.proofs.Common.{◌≡◌, ◌+◌, refl}
use Rattle.sock_diag_extras.specs.declared.constants.TheConstants.{INET_DIAG_SOCKOPT}
use Rattle.sslist_lister.specs.declared.collected.TheConstants.{KINDS}
use Rattle.sslist_lister.specs.declared.line.TheConstants.{LOCAL_WIDTH, NO_INTERFACE}
use Rattle.sslist_lister.specs.declared.list.TheConstants.{EINVAL, ENOENT}
use Rattle.sslist_lister.specs.declared.others.TheConstants.{ANY, NETLINK_CONNECTED}
use Rattle.sslist_lister.specs.declared.requests.TheConstants.{MAX_OLDER_REQUESTS}
use Rattle.sslist_lister.specs.declared.sctp.TheConstants.{NO_TCP_STATE}

-- numbers of errno(3)
pub error_numbers : (ENOENT ≡ 2) × (EINVAL ≡ 22)
error_numbers = (refl, refl)

-- numbers of the kernel: the state of a connected netlink socket, VMADDR_CID_ANY and
-- VMADDR_PORT_ANY, and the index that is no interface
pub kernel_numbers : (NETLINK_CONNECTED ≡ 1) × (ANY ≡ 0xffffffff) × (NO_INTERFACE ≡ 0)
kernel_numbers = (refl, refl, refl)

-- a number above those of the states with a bit of their own in a set of states
pub no_tcp_state : NO_TCP_STATE ≡ 255
no_tcp_state = refl

-- a slot for each kind up to the last one of linux/inet_diag.h
pub number_of_kinds : KINDS ≡ INET_DIAG_SOCKOPT + 1
number_of_kinds = refl

-- with the newest request at most 16 are kept
pub older_requests : MAX_OLDER_REQUESTS ≡ 15
older_requests = refl

-- the width of the column of the local address, by the heading of the table
pub local_width : LOCAL_WIDTH ≡ 30
local_width = refl
