-- The lines of a listing.
use Rattle.std.specs.Prelude.{◌≡◌, ℕ, List, Option, Some, None, Result, Ok, Err}
use Rattle.std.specs.List.{filter_map}
use Rattle.netlink_core.specs.declared.error.DecodeError.{DecodeError}
use Rattle.netlink_core.specs.NetlinkMessage.{Payload}
use Rattle.netlink_core.specs.declared.message.NetlinkPayload.TheVariants.{Done, Error, Noop}
use Rattle.netlink_core.specs.declared.message.NetlinkPayload.TheVariants.{Overrun, InnerMessage}
use Rattle.netlink_core.specs.Items.{IsItemOf, AreItemsOf}
use Rattle.netlink_packet_sock_diag.specs.Message.{Message, message_of, message_codec}
use Rattle.sock_diag_records.specs.ResponseKind.{inet_request, inet_response, unix_request}
use Rattle.sock_diag_records.specs.ResponseKind.{unix_response}
use Rattle.sock_diag_examples.specs.declared.lister.Line.{Line}
use Rattle.sock_diag_examples.specs.declared.lister.Line.TheVariants.{Socket, End, Failure, Refused}

-- `socket_of message`: the line of a message: the state and the inode of a reply (`idiag_state`,
-- `idiag_inode`, or `udiag_state`, `udiag_ino`); None for a request
abbrev pub socket_of : Message → Option Line
socket_of (message_of inet_request v) = None
socket_of (message_of inet_response v) = Some (Socket v.header.state v.header.inode)
socket_of (message_of unix_request v) = None
socket_of (message_of unix_response v) = Some (Socket v.header.state v.header.inode)

-- `line_of item`: the line of an item, which is the payload of a message or a decode error: the
-- state and the inode of a reply, the end of the dump, a failure that the kernel reports
-- (NLMSG_ERROR or NLMSG_OVERRUN), or the decode error. NLMSG_NOOP has no line (None).
abbrev pub line_of : Result (Payload Message) DecodeError → Option Line
line_of (Ok (InnerMessage message)) = socket_of message
line_of (Ok (Done given)) = Some End
line_of (Ok (Error given)) = Some Failure
line_of (Ok (Overrun given)) = Some Failure
line_of (Ok Noop) = None
line_of (Err e) = Some (Refused e)

-- `AreLinesOf datagram lines`: the lines of the items of the datagram that have one, in order
pub record AreLinesOf (datagram : List ℕ) (lines : List Line) : Type 0 where
  -- the payload or the decode error of each message, in order; last, if bytes are left that are not
  -- a message, their decode error
  pub items : List (Result (Payload Message) DecodeError)
  pub are_items : AreItemsOf (IsItemOf message_codec) datagram items
  -- the lines of the items that have one
  pub are_lines : lines ≡ filter_map line_of items
