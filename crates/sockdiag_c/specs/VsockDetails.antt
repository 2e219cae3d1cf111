-- The contents of a reply about a vsock socket: its header.
use Rattle.std.specs.Prelude.{[]}
use Rattle.netlink_core.specs.Layout.{parse_record}
use Rattle.sock_diag_families.specs.VsockResponseHeader.{vsock_header}
use Rattle.sock_diag_families.specs.declared.vsock.response.VsockResponseHeader.{
  VsockResponseHeader,
}
use Rattle.sock_diag_any.specs.AnyNla.{AnyValue, read_any}
use Rattle.sock_diag_any.specs.declared.nla.Sockets.TheVariants.{Vsock}
use Rattle.sockdiag_c.specs.Family.{Family}

-- Replies about vsock sockets. The struct is the header itself, of `vsock_header.least` bytes.
-- There are no rows (`[]`), since Linux adds no attributes: if a reply has some, only their framing
-- is checked.
abbrev pub vsock_family : Family VsockResponseHeader
vsock_family = record {
  Header = VsockResponseHeader;
  parse_header = parse_record vsock_header tt;
  header_size = vsock_header.least;
  header = λ d. d;
  Value = AnyValue;
  read = read_any Vsock;
  rows = [];
}
