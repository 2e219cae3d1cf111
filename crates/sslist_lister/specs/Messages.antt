-- Netlink messages, by their header and their payload.
use Rattle.std.specs.Prelude.{ℕ, ◌==◌, ◌&&◌, not, nat_le, if◌then◌else◌, Bool, List, length}
use Rattle.std.specs.Prelude.{bit_and, Option, None, Some}
use Rattle.netlink_core.specs.Header.{header_fields, header_of_numbers, message_payload}
use Rattle.netlink_core.specs.Table.{values_of}
use Rattle.netlink_core.specs.declared.header.NetlinkHeader.{NetlinkHeader}
use Rattle.netlink_core.specs.declared.header.TheConstants.{NETLINK_HEADER_LEN}
use Rattle.netlink_core.specs.declared.message.TheConstants.{NLM_F_REQUEST}
use Rattle.sslist_lister.specs.declared.messages.Message.{Message}

-- What a netlink message has.
pub record MessageParts : Type 0 where
  -- its header
  pub header : NetlinkHeader
  -- the bytes after the header
  pub payload : List ℕ

-- the header that the bytes begin with
unfoldable pub leading_header : List ℕ → NetlinkHeader
leading_header bytes = header_of_numbers (values_of header_fields bytes)

-- the message that the bytes begin with
abbrev pub message_in : List ℕ → MessageParts
message_in bytes = record {
  header = leading_header bytes;
  payload = message_payload bytes (leading_header bytes);
}

-- the bytes begin with a message: they have at least the bytes of a header, and the length in it is
-- at least that of the header and at most the number of bytes
abbrev pub begins_with_message : List ℕ → Bool
begins_with_message bytes = nat_le NETLINK_HEADER_LEN (length bytes)
    && (nat_le NETLINK_HEADER_LEN (leading_header bytes).length
    && nat_le (leading_header bytes).length (length bytes))

-- the request that the bytes begin with: a message whose flags have NLM_F_REQUEST. None if they do
-- not begin with a message, or if it is not a request.
abbrev pub request_in : List ℕ → Option MessageParts
request_in bytes =
    if begins_with_message bytes && not (bit_and (leading_header bytes).flags NLM_F_REQUEST == 0)
    then Some (message_in bytes) else None

-- the header and the payload of a message of the program (`Message` of `src/messages.rt`)
abbrev pub message_parts : Message → MessageParts
message_parts message = record { header = message.header; payload = message.payload.now }
