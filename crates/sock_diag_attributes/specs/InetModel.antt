-- The model of an attribute of a reply about an IPv4 or IPv6 socket: what contracts see of it.
use Rattle.std.specs.Borrow.{Bor}
use Rattle.std.specs.Prelude.{ℕ, List, String, string_bytes}
use Rattle.std.proofs.Common.{inl, inr}
use Rattle.std.specs.declared.alloc.Global.{Global}
use Rattle.netlink_core.specs.declared.attribute.NlaBuffer.{NlaBuffer}
use Rattle.netlink_core.specs.declared.nla.DefaultNla.{DefaultNla}
use Rattle.netlink_core.specs.Attribute.{Attribute}
use Rattle.netlink_core.specs.DefaultNla.{raw_attribute}
use Rattle.netlink_core.specs.AttributeSet.{AttributeValue, encode_attribute, value_as_decoded}
use Rattle.netlink_core.specs.Walk.{buffered_attribute}
use Rattle.sock_diag_attributes.specs.declared.inet.nlas.InetNla.{InetNla}
use Rattle.sock_diag_attributes.specs.declared.inet.nlas.InetNla.TheVariants as nla
use Rattle.sock_diag_attributes.specs.InetAttributes.{inet_attribute_set}
use Rattle.sock_diag_records.specs.declared.constants.TheConstants as c

-- Owned and borrowed attributes differ in the type `T` of texts and the type `O` of raw attributes.
-- `text` returns the bytes of a text, and `other` the type field and value of a raw attribute. They
-- are the first two arguments of both definitions below.
module _ {T O : Type 0} (text : T → List ℕ) (other : O → Attribute) where
  -- `inet_nla_value text other a`: the decoded value of the attribute `a`.
  -- `value_as_decoded set kind x` is the value `x`, of the type of this kind in the set. No type in
  -- the set has the kind 0xffff, so that `Other` is a raw attribute, whatever its own kind is.
  abbrev pub inet_nla_value : InetNla T O → AttributeValue inet_attribute_set
  inet_nla_value (nla.LegacyMemInfo m) = value_as_decoded inet_attribute_set c.INET_DIAG_MEMINFO m
  inet_nla_value (nla.TcpInfo t) = value_as_decoded inet_attribute_set c.INET_DIAG_INFO t
  inet_nla_value (nla.Congestion t) = value_as_decoded inet_attribute_set c.INET_DIAG_CONG (text t)
  inet_nla_value (nla.Tos n) = value_as_decoded inet_attribute_set c.INET_DIAG_TOS n
  inet_nla_value (nla.Tc n) = value_as_decoded inet_attribute_set c.INET_DIAG_TCLASS n
  inet_nla_value (nla.MemInfo m) = value_as_decoded inet_attribute_set c.INET_DIAG_SKMEMINFO m
  inet_nla_value (nla.Shutdown n) = value_as_decoded inet_attribute_set c.INET_DIAG_SHUTDOWN n
  inet_nla_value (nla.Protocol n) = value_as_decoded inet_attribute_set c.INET_DIAG_PROTOCOL n
  inet_nla_value (nla.SkV6Only flag) = value_as_decoded inet_attribute_set c.INET_DIAG_SKV6ONLY flag
  inet_nla_value (nla.Mark n) = value_as_decoded inet_attribute_set c.INET_DIAG_MARK n
  inet_nla_value (nla.ClassId n) = value_as_decoded inet_attribute_set c.INET_DIAG_CLASS_ID n
  inet_nla_value (nla.Other a) = value_as_decoded inet_attribute_set 0xffff (other a)

  -- `inet_nla_attribute text other a`: the type field and the value that the attribute `a`
  -- serializes as
  abbrev pub inet_nla_attribute : InetNla T O → Attribute
  inet_nla_attribute a = encode_attribute inet_attribute_set (inet_nla_value a)

-- `inet_variant_value a`: the decoded value of the attribute `a`, in which a text and a raw
-- attribute are models already, so that `text` and `other` return them unchanged
abbrev pub inet_variant_value : InetNla (List ℕ) Attribute → AttributeValue inet_attribute_set
inet_variant_value a = inet_nla_value (λ text. text) (λ other. other) a

-- `inet_variant value`: the attribute that has this decoded value, the inverse of
-- `inet_variant_value`. The values of the types are nested in the order of the set: `inl memory` is
-- a value of the first type, `inr (inl info)` one of the second, and so on; after eleven `inr` it
-- is a raw attribute.
abbrev pub inet_variant : AttributeValue inet_attribute_set → InetNla (List ℕ) Attribute
inet_variant (inl memory) = nla.LegacyMemInfo memory
inet_variant (inr (inl info)) = nla.TcpInfo info
inet_variant (inr (inr (inl name))) = nla.Congestion name
inet_variant (inr (inr (inr (inl tos)))) = nla.Tos tos
inet_variant (inr (inr (inr (inr (inl class))))) = nla.Tc class
inet_variant (inr (inr (inr (inr (inr (inl memory)))))) = nla.MemInfo memory
inet_variant (inr (inr (inr (inr (inr (inr (inl state))))))) = nla.Shutdown state
inet_variant (inr (inr (inr (inr (inr (inr (inr (inl protocol)))))))) = nla.Protocol protocol
inet_variant (inr (inr (inr (inr (inr (inr (inr (inr (inl only))))))))) = nla.SkV6Only only
inet_variant (inr (inr (inr (inr (inr (inr (inr (inr (inr (inl mark)))))))))) = nla.Mark mark
inet_variant (inr (inr (inr (inr (inr (inr (inr (inr (inr (inr (inl class))))))))))) =
    nla.ClassId class
inet_variant (inr (inr (inr (inr (inr (inr (inr (inr (inr (inr (inr other))))))))))) =
    nla.Other other

-- `inet_nla_model a`: the model of the owned attribute `a`, which contracts compare: its decoded
-- value, with a text as its bytes, and a raw attribute as its type field and value
abbrev pub inet_nla_model : InetNla (String Global) DefaultNla → AttributeValue inet_attribute_set
inet_nla_model a = inet_nla_value string_bytes raw_attribute a

-- `inet_nla_view_model a`: the model of the borrowed attribute `a`: its decoded value, with a text
-- as the bytes that it borrows. The model is equal to that of an owned attribute of the same kind
-- with the same value.
abbrev pub inet_nla_view_model : InetNla (Bor (List ℕ)) NlaBuffer
    → AttributeValue inet_attribute_set
inet_nla_view_model a = inet_nla_value (λ (t : Bor (List ℕ)). t.now) buffered_attribute a
