-- The attributes of a message about a network interface, rtnetlink(7).
use Rattle.std.specs.Prelude.{◌≡◌, ◌≢◌, ℕ, ◌<◌, ◌≤◌, ◌==◌, if◌then◌else◌, List, length, drop}
use Rattle.std.specs.Prelude.{Option, Some, None, Result, Ok, Err, IsOk, String, string_bytes}
use Rattle.std.specs.Prelude.{option_map}
use Rattle.std.specs.List.{AllByRecursion}
use Rattle.std.specs.declared.alloc.Global.{Global}
use Rattle.netlink_core.specs.declared.error.DecodeError.{DecodeError}
use Rattle.netlink_core.specs.declared.error.DecodeError.TheVariants.{Memory}
use Rattle.netlink_core.specs.Attribute.{Attribute, HasAttributeError, SplitsUntilError}
use Rattle.netlink_core.specs.Attribute.{HasAttributePrefix, attribute_kind}
use Rattle.netlink_core.specs.Parse.{number_of_width, parse_text}
use Rattle.sock_diag_examples.specs.declared.link.LinkError.{LinkError}
use Rattle.sock_diag_examples.specs.declared.link.LinkError.TheVariants as errors
use Rattle.sock_diag_examples.specs.declared.link.TheConstants.{IFLA_IFNAME, IFLA_MTU}

-- What an attribute of a message about an interface decodes to: the bytes of the interface's name;
-- its MTU; or nothing that is used (`other_attribute`).
pub data LinkAttribute : Type 0 where
  name_attribute : List ℕ → LinkAttribute
  mtu_attribute : ℕ → LinkAttribute
  other_attribute : LinkAttribute

-- `map_decoded make r`: `Ok (make x)` if `r` is `Ok x`; the same error if it is an `Err`
abbrev pub map_decoded : {A : Type 0} → (A → LinkAttribute) → Result A DecodeError
    → Result LinkAttribute DecodeError
map_decoded make (Ok x) = Ok (make x)
map_decoded make (Err e) = Err e

-- `decodes_link a`: what the attribute `a` decodes to, by its type. IFLA_IFNAME is a UTF-8 text,
-- without one terminating NUL if it has one. IFLA_MTU is a little-endian `__u32`; any length other
-- than four bytes is WrongLength, without an attribute type (`None`). Any other type is not used.
abbrev pub decodes_link : Attribute → Result LinkAttribute DecodeError
decodes_link a =
    if attribute_kind a == IFLA_IFNAME then map_decoded name_attribute (parse_text a.value)
    else if attribute_kind a == IFLA_MTU
    then map_decoded mtu_attribute (number_of_width None 4 a.value) else Ok other_attribute

-- `name_in decoded`: the name, if the attribute decodes to a name, else None
abbrev pub name_in : LinkAttribute → Option (List ℕ)
name_in (name_attribute name) = Some name
name_in (mtu_attribute mtu) = None
name_in other_attribute = None

-- `mtu_in decoded`: the MTU, if the attribute decodes to an MTU, else None
abbrev pub mtu_in : LinkAttribute → Option ℕ
mtu_in (name_attribute name) = None
mtu_in (mtu_attribute mtu) = Some mtu
mtu_in other_attribute = None

-- `string_content text`: the bytes of the text, if there is one
abbrev pub string_content : Option (String Global) → Option (List ℕ)
string_content text = option_map string_bytes text

-- `link_error_of error`: the error of an attribute, as an error of `parse_link`
abbrev pub link_error_of : DecodeError → LinkError
link_error_of error = errors.Attribute error

-- `IsNamePrefix bytes`: the bytes start with an attribute that decodes to a name
abbrev pub IsNamePrefix : List ℕ → Type 0
IsNamePrefix bytes = (a : Attribute) × HasAttributePrefix bytes a × (name : List ℕ)
    × (decodes_link a ≡ Ok (name_attribute name))

-- `HasName bytes`: the bytes are zero or more attributes that decode, and then bytes that start
-- with an attribute that decodes to a name (`IsNamePrefix`). `SplitsUntilError has_error bytes
-- attributes e`: the bytes are these attributes, and then bytes `left` with `has_error left e`. The
-- relation used here ignores `e`, so that any error can be given for it, such as `Memory`.
abbrev pub HasName : List ℕ → Type 0
HasName bytes =
    (attributes : List Attribute) × SplitsUntilError (λ left _. IsNamePrefix left) bytes attributes
    Memory
    × AllByRecursion (λ a. IsOk (decodes_link a)) attributes

-- `LinkFails payload error`: what holds if `parse_link` returns this error:
-- - `TooShort got`: the payload has `got` bytes, fewer than the 16 of `struct ifinfomsg`.
-- - `Attribute e`, where `e` is not `Memory`: `e` is the first error of the attributes, which
--   follow these 16 bytes.
-- - `Attribute Memory`: there is a name to allocate (`HasName`).
abbrev pub LinkFails : List ℕ → LinkError → Type 0
LinkFails payload (errors.TooShort got) = (got ≡ length payload) × (length payload < 16)
LinkFails payload (errors.Attribute e) =
    (16 ≤ length payload) × (e ≢ Memory → HasAttributeError decodes_link (drop 16 payload) e)
    × (e ≡ Memory → HasName (drop 16 payload))
