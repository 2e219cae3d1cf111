-- The attributes of a reply about a socket of any family: one item for each.
use Rattle.std.specs.Prelude.{List, map, Option, Some, None, Result, Ok, Err, ℕ}
use Rattle.std.specs.Iterator.{YieldsFirstBy}
use Rattle.std.specs.Result.{result_map_both}
use Rattle.netlink_core.specs.Attribute.{Attribute}
use Rattle.netlink_core.specs.Walk.{buffered_attribute, unread_bytes}
use Rattle.netlink_core.specs.declared.attribute.NlaBuffer.{NlaBuffer}
use Rattle.netlink_core.specs.declared.error.DecodeError.{DecodeError}
use Rattle.sock_diag_any.specs.AnyNla.{AnyValue, any_model, read_any}
use Rattle.sock_diag_any.specs.Pieces.{AttributeOrError, pieces_in}
use Rattle.sock_diag_any.specs.declared.nla.AnyNla.{AnyNla}
use Rattle.sock_diag_any.specs.declared.nla.Sockets.{Sockets}
use Rattle.sock_diag_any.specs.declared.nlas.AnyNlas.{AnyNlas}
use Rattle.sock_diag_any.specs.declared.nlas.Rejected.{Rejected}
use Rattle.sock_diag_any.specs.declared.nlas.Rejected.TheVariants as rejected

-- A rejection: the rejected attribute, or None for bytes that are not an attribute; and the error.
pub record Rejection : Type 0 where
  pub attribute : Option Attribute
  pub error : DecodeError

-- the model of a rejection (`Rejected` of `src/nlas.rt`)
abbrev pub rejection : Rejected → Rejection
rejection (rejected.Attribute nla e) =
    record { attribute = Some (buffered_attribute nla); error = e }
rejection (rejected.Framing e) = record { attribute = None; error = e }

-- an item: an attribute and what it says, or a rejection
abbrev pub Item : Type 0
Item = Result (Attribute × AnyValue) Rejection

-- `item_by read piece`: the item of an attribute, which `read` reads or rejects; or of the error of
-- bytes that are not an attribute
abbrev pub item_by : {V : Type 0} → (Attribute → Result V DecodeError) → AttributeOrError
    → Result (Attribute × V) Rejection
item_by read (Ok a) = result_map_both (λ value. (a, value))
    (λ e. record { attribute = Some a; error = e }) (read a)
item_by read (Err e) = Err (record { attribute = None; error = e })

-- `items_in of_sockets bytes`: the items of the attributes in the bytes, in order, for a reply
-- about these sockets. The last item is the framing error of the bytes after the last attribute,
-- if there are any.
abbrev pub items_in : Sockets → List ℕ → List Item
items_in of_sockets bytes = map (item_by (read_any of_sockets)) (pieces_in bytes)

-- the model of an item that the iterator yields
abbrev pub item_model : Result (NlaBuffer × AnyNla) Rejected → Item
item_model item = result_map_both
    (λ (read : NlaBuffer × AnyNla). (buffered_attribute read.0, any_model read.1)) rejection item

-- the items that an iterator has not yielded yet
abbrev pub items_left : AnyNlas → List Item
items_left nlas = items_in nlas.sockets (unread_bytes nlas.walk)

-- `YieldsItem old item new`: a call of `next` on the iterator `old` yields its first item, or None
-- if there is none, and leaves the others to `new`.
abbrev pub YieldsItem : AnyNlas → Option (Result (NlaBuffer × AnyNla) Rejected) → AnyNlas → Type 0
YieldsItem old item new = YieldsFirstBy item_model items_left old item new
