-- The text of a netlink message: the five fields of its header in decimal, and its payload in hex.
use Rattle.std.specs.Prelude.{ℕ, List, [], ◌∷◌, ◌++◌, map, decimal}
use Rattle.std.specs.List.{join_with_byte}
use Rattle.netlink_core.specs.NetlinkMessage.{NetlinkMessageModel, payload_bytes}
use Rattle.netlink_core.specs.Header.{header_values}
use Rattle.netlink_packet_sock_diag.specs.Message.{Message, message_codec}
use Rattle.sock_diag_lines.specs.HexField.{hex_field_of, space}

-- `netlink_message_text message`: six texts separated by one space: `nlmsg_len`, `nlmsg_type`,
-- `nlmsg_flags`, `nlmsg_seq` and `nlmsg_pid` as they were parsed, in decimal; and the serialized
-- payload as a hex field
abbrev pub netlink_message_text : NetlinkMessageModel Message → List ℕ
netlink_message_text message = join_with_byte space (map decimal (header_values message.header)
    ++ hex_field_of (payload_bytes message_codec.serialized message.payload) ∷ [])
