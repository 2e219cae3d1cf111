-- How the items of a reply relate to the port, which decodes fewer kinds.
use Rattle.std.specs.Prelude.{◌≡◌, ◌↔◌, ℕ, ◌==◌, ◌||◌, if◌then◌else◌, Bool, false, List, [], ◌∷◌}
use Rattle.std.specs.Prelude.{Option, Some, None, Ok, Err, slice_get}
use Rattle.std.specs.List.{filter_map}
use Rattle.std.specs.Option.{option_map_or}
use Rattle.netlink_core.specs.Attribute.{Attribute, DecodeTo, HasAttributeError, attribute_kind}
use Rattle.netlink_core.specs.AttributeSet.{AttributeSet, AttributeValue, decode_attribute}
use Rattle.netlink_core.specs.Bytes.{IsBytes}
use Rattle.netlink_core.specs.declared.error.DecodeError.{DecodeError}
use Rattle.sock_diag_any.specs.AnyItems.{Item, items_in}
use Rattle.sock_diag_any.specs.declared.nla.Sockets.{Sockets}

-- `has_kind set a`: the attribute `a` is of a kind of the set, whatever its two flag bits
abbrev pub has_kind : AttributeSet → Attribute → Bool
has_kind [] a = false
has_kind (spec ∷ others) a = (attribute_kind a == spec.number) || has_kind others a

-- `port_error set item`: the error with which the port, whose kinds are those of the set, rejects
-- the item too: that of an attribute of one of these kinds, or of bytes that are not an attribute.
-- None for other items: the port leaves an attribute of another kind raw.
abbrev pub port_error : AttributeSet → Item → Option DecodeError
port_error set (Ok read) = None
port_error set (Err of_item) =
    option_map_or (λ a. if has_kind set a then Some of_item.error else None) of_item.attribute
    (Some of_item.error)

-- `first_port_error set items`: the first error of an item that the port has too; None if there is
-- none
abbrev pub first_port_error : AttributeSet → List Item → Option DecodeError
first_port_error set items = slice_get (filter_map (port_error set) items) 0

-- `AgreesWithPort set of_sockets`: how the items of a reply about these sockets relate to the
-- port, which decodes the kinds of the set. `bytes` are the bytes after the header of the reply.
pub record AgreesWithPort (set : AttributeSet) (of_sockets : Sockets) : Type 0 where
  -- the port decodes the bytes if and only if no item has an error that the port has too
  pub accepted : (bytes : List ℕ) → IsBytes bytes
      → ((values : List (AttributeValue set)) × DecodeTo (decode_attribute set) bytes values)
      ↔ (first_port_error set (items_in of_sockets bytes) ≡ None)
  -- the port rejects the bytes with the error of the first such item, and with no other error
  pub rejected : (bytes : List ℕ) (e : DecodeError) → IsBytes bytes
      → HasAttributeError (decode_attribute set) bytes e
      ↔ (first_port_error set (items_in of_sockets bytes) ≡ Some e)
