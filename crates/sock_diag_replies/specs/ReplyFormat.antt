-- Formats of replies that differ in the attribute set only.
use Rattle.netlink_core.specs.AttributeSet.{AttributeSet}
use Rattle.netlink_core.specs.Response.{ResponseSpec}

-- `with_attribute_set format set`: the format of replies with the same header, whose attributes are
-- decoded by the attribute set `set`
abbrev pub with_attribute_set : ResponseSpec → AttributeSet → ResponseSpec
with_attribute_set format set = record format { attribute_set = set }
