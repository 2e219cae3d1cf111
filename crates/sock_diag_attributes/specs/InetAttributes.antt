-- The attributes of replies about IPv4 and IPv6 sockets (`enum` of INET_DIAG_.. in
-- linux/inet_diag.h): one line for each type that is decoded, with the codec of its value.
-- Attributes of all other types are kept raw.
use Rattle.std.specs.Prelude.{[], ◌∷◌}
use Rattle.netlink_core.specs.AttributeSet.{AttributeSet}
use Rattle.netlink_core.specs.ValueCodec.{value_codec}
use Rattle.netlink_core.specs.AttributeSpecs.{attribute_spec, allocating_attribute_spec}
use Rattle.netlink_core.specs.AttributeSpecs.{number_attribute_spec}
use Rattle.sock_diag_values.specs.LegacyMemInfo.{legacy_mem_info}
use Rattle.sock_diag_values.specs.MemInfo.{mem_info}
use Rattle.sock_diag_values.specs.TcpInfo.{tcp_info}
use Rattle.sock_diag_attributes.specs.Text.{text_value}
use Rattle.sock_diag_attributes.specs.Flag.{flag_value}
use Rattle.sock_diag_records.specs.declared.constants.TheConstants as c

-- Types 1 (`struct inet_diag_meminfo`), 2 (`struct tcp_info`), 4 (the name of the congestion
-- control algorithm), 5 (type of service), 6 (traffic class), 7 (`u32` values, indexed by
-- SK_MEMINFO_..), 8 (the directions that are shut down), 10 (IPPROTO_..), 11 (whether the socket is
-- restricted to IPv6), 15 (the mark) and 17 (the class id of the control group, or the priority).
-- `attribute_spec t codec` is type `t`, whose value is parsed and serialized by `codec`;
-- `value_codec layout` is the codec of a record. `number_attribute_spec t w` is type `t`, a
-- little-endian number of exactly `w` bytes. A value of an `allocating_attribute_spec` needs
-- memory; a value of another type of the set needs none.
abbrev pub inet_attribute_set : AttributeSet
inet_attribute_set =
    attribute_spec c.INET_DIAG_MEMINFO (value_codec legacy_mem_info) ∷
    attribute_spec c.INET_DIAG_INFO (value_codec tcp_info) ∷
    allocating_attribute_spec c.INET_DIAG_CONG text_value ∷
    number_attribute_spec c.INET_DIAG_TOS 1 ∷
    number_attribute_spec c.INET_DIAG_TCLASS 1 ∷
    attribute_spec c.INET_DIAG_SKMEMINFO (value_codec mem_info) ∷
    number_attribute_spec c.INET_DIAG_SHUTDOWN 1 ∷
    number_attribute_spec c.INET_DIAG_PROTOCOL 1 ∷
    attribute_spec c.INET_DIAG_SKV6ONLY (flag_value c.INET_DIAG_SKV6ONLY) ∷
    number_attribute_spec c.INET_DIAG_MARK 4 ∷
    number_attribute_spec c.INET_DIAG_CLASS_ID 4 ∷ []
