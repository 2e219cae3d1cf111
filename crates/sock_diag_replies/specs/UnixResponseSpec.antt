-- Replies about UNIX sockets (`struct unix_diag_msg` of linux/unix_diag.h): a header of 16 bytes,
-- and then attributes.
use Rattle.netlink_core.specs.ValueCodec.{value_codec}
use Rattle.netlink_core.specs.Response.{ResponseSpec}
use Rattle.sock_diag_records.specs.UnixResponseHeader.{unix_response_header}
use Rattle.sock_diag_attributes.specs.UnixAttributes.{unix_attribute_set}

-- the format of these replies: the codec of the header, its size in bytes, and the set of the
-- attributes (`UNIX_DIAG_..`) after it
abbrev pub unix_response_spec : ResponseSpec
unix_response_spec =
    record {
      header = value_codec unix_response_header;
      size = 16;
      attribute_set = unix_attribute_set;
    }
