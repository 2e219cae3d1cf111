-- The attributes (`struct nlattr` of linux/netlink.h) that values and bytes serialize as.
use Rattle.std.specs.Prelude.{ℕ, List, map}
use Rattle.netlink_core.specs.Attribute.{Attribute}
use Rattle.netlink_core.specs.AttributeSet.{AttributeSet, AttributeValue}
use Rattle.netlink_core.specs.AttributeSet.{encode_attribute}

-- `serialized_attributes set values`: the attribute that each value of the attribute set serializes
-- as, in order
abbrev pub serialized_attributes : (set : AttributeSet) → List (AttributeValue set)
    → List Attribute
serialized_attributes set values = map (encode_attribute set) values
