-- The attributes of replies about UNIX sockets (`enum` of UNIX_DIAG_.. in linux/unix_diag.h): one
-- line for each type that is decoded, with the codec of its value. Attributes of all other types
-- are kept raw.
use Rattle.std.specs.Prelude.{[], ◌∷◌}
use Rattle.netlink_core.specs.AttributeSet.{AttributeSet}
use Rattle.netlink_core.specs.ValueCodec.{value_codec}
use Rattle.netlink_core.specs.AttributeSpecs.{attribute_spec, allocating_attribute_spec}
use Rattle.netlink_core.specs.AttributeSpecs.{number_attribute_spec}
use Rattle.sock_diag_values.specs.Vfs.{vfs}
use Rattle.sock_diag_values.specs.UnixMemInfo.{unix_mem_info}
use Rattle.sock_diag_attributes.specs.Name.{name_value}
use Rattle.sock_diag_attributes.specs.Numbers.{number_pair_value, numbers_value}
use Rattle.sock_diag_records.specs.declared.constants.TheConstants as c

-- Types 0 (the name), 1 (`struct unix_diag_vfs`), 2 (the inode of the peer), 3 (the inodes of the
-- sockets whose connections wait to be accepted), 4 (`struct unix_diag_rqlen`), 5 (`u32` values,
-- indexed by SK_MEMINFO_..) and 6 (the directions that are shut down). `attribute_spec t codec` is
-- type `t`, whose value is parsed and serialized by `codec`; `value_codec layout` is the codec of a
-- record.
-- `number_attribute_spec t w` is type `t`, a little-endian number of exactly `w` bytes. A value of
-- an `allocating_attribute_spec` needs memory; a value of another type of the set needs none.
abbrev pub unix_attribute_set : AttributeSet
unix_attribute_set =
    allocating_attribute_spec c.UNIX_DIAG_NAME name_value ∷
    attribute_spec c.UNIX_DIAG_VFS (value_codec vfs) ∷
    number_attribute_spec c.UNIX_DIAG_PEER 4 ∷
    allocating_attribute_spec c.UNIX_DIAG_ICONS numbers_value ∷
    attribute_spec c.UNIX_DIAG_RQLEN (number_pair_value c.UNIX_DIAG_RQLEN) ∷
    attribute_spec c.UNIX_DIAG_MEMINFO (value_codec unix_mem_info) ∷
    number_attribute_spec c.UNIX_DIAG_SHUTDOWN 1 ∷ []
