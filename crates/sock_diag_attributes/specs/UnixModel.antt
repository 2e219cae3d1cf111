-- The model of an attribute of a reply about a UNIX socket: what contracts see of it.
use Rattle.std.specs.Borrow.{Bor}
use Rattle.std.specs.Prelude.{ℕ, List, Vec, vec_items}
use Rattle.std.proofs.Common.{inl, inr}
use Rattle.std.specs.declared.alloc.Global.{Global}
use Rattle.netlink_core.specs.declared.attribute.NlaBuffer.{NlaBuffer}
use Rattle.netlink_core.specs.declared.nla.DefaultNla.{DefaultNla}
use Rattle.netlink_core.specs.Attribute.{Attribute}
use Rattle.netlink_core.specs.DefaultNla.{raw_attribute}
use Rattle.netlink_core.specs.AttributeSet.{AttributeValue, encode_attribute, value_as_decoded}
use Rattle.netlink_core.specs.Walk.{buffered_attribute}
use Rattle.sock_diag_attributes.specs.declared.numbers.NumbersView.{NumbersView}
use Rattle.sock_diag_attributes.specs.declared.unix.name.SocketName.{SocketName}
use Rattle.sock_diag_attributes.specs.declared.unix.nlas.UnixNla.{UnixNla}
use Rattle.sock_diag_attributes.specs.declared.unix.nlas.UnixNla.TheVariants as nla
use Rattle.sock_diag_attributes.specs.NameModel.{socket_name_model}
use Rattle.sock_diag_attributes.specs.NumbersModel.{numbers_view_model}
use Rattle.sock_diag_attributes.specs.UnixAttributes.{unix_attribute_set}
use Rattle.sock_diag_records.specs.declared.constants.TheConstants as c

-- Owned and borrowed attributes differ in the type `N` of names, the type `L` of lists and the type
-- `O` of raw attributes. `name` returns a name with its bytes, `list` the numbers of a list, and
-- `other` the type field and value of a raw attribute. They are the first three arguments of both
-- definitions below.
module _ {N L O : Type 0} (name : N → SocketName (List ℕ)) (list : L → List ℕ)
    (other : O → Attribute) where
  -- `unix_nla_value name list other a`: the decoded value of the attribute `a`.
  -- `value_as_decoded set kind x` is the value `x`, of the type of this kind in the set. No type in
  -- the set has the kind 0xffff, so that `Other` is a raw attribute, whatever its own kind is.
  abbrev pub unix_nla_value : UnixNla N L O → AttributeValue unix_attribute_set
  unix_nla_value (nla.Name n) = value_as_decoded unix_attribute_set c.UNIX_DIAG_NAME (name n)
  unix_nla_value (nla.Vfs v) = value_as_decoded unix_attribute_set c.UNIX_DIAG_VFS v
  unix_nla_value (nla.Peer n) = value_as_decoded unix_attribute_set c.UNIX_DIAG_PEER n
  unix_nla_value (nla.PendingConnections ns) =
      value_as_decoded unix_attribute_set c.UNIX_DIAG_ICONS (list ns)
  unix_nla_value (nla.ReceiveQueueLength rqueue wqueue) =
      value_as_decoded unix_attribute_set c.UNIX_DIAG_RQLEN (rqueue, wqueue)
  unix_nla_value (nla.MemInfo m) = value_as_decoded unix_attribute_set c.UNIX_DIAG_MEMINFO m
  unix_nla_value (nla.Shutdown n) = value_as_decoded unix_attribute_set c.UNIX_DIAG_SHUTDOWN n
  unix_nla_value (nla.Other a) = value_as_decoded unix_attribute_set 0xffff (other a)

  -- `unix_nla_attribute name list other a`: the type field and the value that the attribute `a`
  -- serializes as
  abbrev pub unix_nla_attribute : UnixNla N L O → Attribute
  unix_nla_attribute a = encode_attribute unix_attribute_set (unix_nla_value a)

-- `unix_variant_value a`: the decoded value of the attribute `a`, in which a name, a list and a raw
-- attribute are models already, so that `name`, `list` and `other` return them unchanged
abbrev pub unix_variant_value : UnixNla (SocketName (List ℕ)) (List ℕ) Attribute
    → AttributeValue unix_attribute_set
unix_variant_value a = unix_nla_value (λ name. name) (λ list. list) (λ other. other) a

-- `unix_variant value`: the attribute that has this decoded value, the inverse of
-- `unix_variant_value`. The values of the types are nested in the order of the set: `inl name` is a
-- value of the first type, `inr (inl file)` one of the second, and so on; after seven `inr` it is a
-- raw attribute.
abbrev pub unix_variant : AttributeValue unix_attribute_set
    → UnixNla (SocketName (List ℕ)) (List ℕ) Attribute
unix_variant (inl name) = nla.Name name
unix_variant (inr (inl file)) = nla.Vfs file
unix_variant (inr (inr (inl inode))) = nla.Peer inode
unix_variant (inr (inr (inr (inl inodes)))) = nla.PendingConnections inodes
unix_variant (inr (inr (inr (inr (inl queues))))) = nla.ReceiveQueueLength queues.0 queues.1
unix_variant (inr (inr (inr (inr (inr (inl memory)))))) = nla.MemInfo memory
unix_variant (inr (inr (inr (inr (inr (inr (inl state))))))) = nla.Shutdown state
unix_variant (inr (inr (inr (inr (inr (inr (inr other))))))) = nla.Other other

-- `unix_nla_model a`: the model of the owned attribute `a`, which contracts compare: its decoded
-- value. The bytes of a name and the numbers of a list are taken from their `Vec`, and a raw
-- attribute is its type field and value.
abbrev pub unix_nla_model : UnixNla (SocketName (Vec ℕ Global)) (Vec ℕ Global) DefaultNla
    → AttributeValue unix_attribute_set
unix_nla_model a = unix_nla_value (socket_name_model vec_items) vec_items raw_attribute a

-- `unix_nla_view_model a`: the model of the borrowed attribute `a`: its decoded value. The bytes of
-- a name and the numbers of a list are those that it borrows (`.now`). The model is equal to that
-- of an owned attribute of the same kind with the same value.
abbrev pub unix_nla_view_model : UnixNla (SocketName (Bor (List ℕ))) NumbersView NlaBuffer
    → AttributeValue unix_attribute_set
unix_nla_view_model a = unix_nla_value (socket_name_model (λ (b : Bor (List ℕ)). b.now))
    numbers_view_model buffered_attribute a
