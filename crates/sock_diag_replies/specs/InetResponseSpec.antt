-- Replies about IPv4 and IPv6 sockets (`struct inet_diag_msg` of linux/inet_diag.h): a header of 72
-- bytes, and then attributes.
use Rattle.netlink_core.specs.ValueCodec.{value_codec}
use Rattle.netlink_core.specs.Response.{ResponseSpec}
use Rattle.sock_diag_records.specs.InetResponse.{inet_response_header}
use Rattle.sock_diag_attributes.specs.InetAttributes.{inet_attribute_set}

-- the format of these replies: the codec of the header, its size in bytes, and the set of the
-- attributes (`INET_DIAG_..`) after it
abbrev pub inet_response_spec : ResponseSpec
inet_response_spec =
    record {
      header = value_codec inet_response_header;
      size = 72;
      attribute_set = inet_attribute_set;
    }
