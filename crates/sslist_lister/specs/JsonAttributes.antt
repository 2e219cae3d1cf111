-- JSON of a socket: the members of its attributes, by `any_facts`, and the number of its list.
use Rattle.std.specs.Prelude.{ℕ, List, [], ◌∷◌, ◌++◌, codes, flat_map, length, map, Result, Ok, Err}
use Rattle.std.specs.Prelude.{Bool, false, None, Option, Some, if◌then◌else◌, nat_lt}
use Rattle.json.specs.Json.{Json}
use Rattle.netlink_core.specs.Attribute.{Attribute, attribute_kind}
use Rattle.netlink_core.specs.declared.error.DecodeError.{DecodeError}
use Rattle.sslist_lister.specs.Collected.{Summary}
use Rattle.sslist_lister.specs.Details.{error_reason}
use Rattle.sslist_texts.specs.JsonData.{JsonMember, array_member, digits_member, json_text}
use Rattle.sslist_texts.specs.JsonData.{number_members, object_of, optional_member, text_member}
use Rattle.sslist_lister.specs.AttributeFacts.{any_facts}
use Rattle.sock_diag_any.specs.AnyNla.{AnyValue}
use Rattle.sock_diag_any.specs.declared.nla.Sockets.{Sockets}

-- ---- attributes without members of their own

-- the members of an attribute without a member of its own: its kind, the length of its value in
-- bytes, and these bytes in lowercase hexadecimal digits
unfoldable pub attribute_members : Attribute → List JsonMember
attribute_members a =
    number_members ((codes "kind", attribute_kind a) ∷ (codes "length", length a.value) ∷ [])
    ++ digits_member (codes "hex") a.value

-- `item_members a status`: the members of an attribute with this status: its kind, its value, and
-- the reason in one word if the value is invalid
unfoldable pub item_members : Attribute → Result Bool DecodeError → List JsonMember
item_members a (Ok has_facts) = attribute_members a
item_members a (Err e) = attribute_members a ++ text_member (codes "error") (error_reason e)

-- the item of an unknown or invalid attribute (`.0`) with its status (`.1`) in the array
-- `other_attributes`
abbrev pub other_item : Attribute × Result Bool DecodeError → Json
other_item other = object_of (item_members other.0 other.1)

-- ---- all attributes of a reply

-- `valid_members sockets first`: the members of the facts of the first valid attribute of a kind,
-- which says `first.1`; none if there is no attribute (None). JSON does not depend on the option
-- `--utf8`, for which `false` is passed.
abbrev pub valid_members : Sockets → Option (ℕ × AnyValue) → List JsonMember
valid_members sockets None = []
valid_members sockets (Some valid) = (any_facts false sockets valid.1).members

-- The members of the attributes of a reply: those of the first valid attribute of each kind, in the
-- order of the kinds, and `other_attributes` with the unknown and the invalid attributes, in the
-- order of the bytes.
unfoldable pub attributes_members : Summary → List JsonMember
attributes_members s =
    flat_map (valid_members s.sockets) s.first
    ++ array_member (codes "other_attributes") (map other_item s.others)

-- ---- sockets

-- the number of a list; None for the first list, whose number is not shown
abbrev pub later_list : ℕ → Option ℕ
later_list list = if nat_lt 1 list then Some list else None

-- `socket_members list header s`: the members of a socket in the list of this number: those of its
-- header, those of its attributes, and `list` if the list is not the first one
abbrev pub socket_members : ℕ → List JsonMember → Summary → List JsonMember
socket_members list header s =
    header ++ attributes_members s ++ optional_member (codes "list") (later_list list)

-- `socket_json list header s`: the line of a socket: an object with `socket_members`, and a line
-- feed (10)
abbrev pub socket_json : ℕ → List JsonMember → Summary → List ℕ
socket_json list header s = json_text (object_of (socket_members list header s)) ++ 10 ∷ []
