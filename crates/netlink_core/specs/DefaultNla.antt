-- The model of an attribute of any kind: what contracts see of it.
use Rattle.netlink_core.specs.declared.nla.DefaultNla.{DefaultNla}
use Rattle.netlink_core.specs.Attribute.{Attribute}

-- `raw_attribute nla`: the type field of an attribute of any kind, with its two flag bits, and the
-- bytes of its value
abbrev pub raw_attribute : DefaultNla → Attribute
raw_attribute nla = record { type_word = nla.kind; value = nla.value.items }
