-- The attributes in bytes (`struct nlattr` of linux/netlink.h), found by their length fields, and
-- what they decode to. For bytes that have an error the lists mean nothing.
use Rattle.std.specs.Prelude.{◌≡◌, ℕ, zero, suc, ◌+◌, ◌-◌, List, [], ◌∷◌, length, take, drop, map}
use Rattle.std.specs.Prelude.{Option, None, MatchOption, SomeIff, Result}
use Rattle.std.specs.List.{filter_map, flat_map}
use Rattle.std.specs.Result.{result_ok}
use Rattle.byteorder.specs.Endian.{little_number}
use Rattle.netlink_core.specs.declared.attribute.NlasIterator.{NlasIterator}
use Rattle.netlink_core.specs.declared.error.DecodeError.{DecodeError}
use Rattle.netlink_core.specs.Attribute.{Attribute, AreWritableWithin, HasAttributeError}
use Rattle.netlink_core.specs.Attribute.{attribute_bytes, padding_length}
use Rattle.netlink_core.specs.AttributeSet.{AttributeSet, AttributeValue, decode_attribute}
use Rattle.netlink_core.specs.AttributeSet.{encode_attribute}
use Rattle.netlink_core.specs.Response.{ResponseSpec, ReplyValue}
use Rattle.netlink_core.specs.Walk.{unread_bytes}

-- `attributes_after n bytes`: the attributes in the bytes after the first `n` bytes. An attribute
-- is `nla_len` and `nla_type`, both little-endian with 16 bits, and a value of `nla_len - 4` bytes.
-- The next attribute begins `nla_len` bytes later, rounded up to a multiple of four.
-- Example: the bytes 04 00 01 00 05 00 02 00 09 have two attributes, type 1 without a value, and
-- type 2 with the value 09.
-- The definition is recursive on the bytes, one by one, so that it terminates: `n` bytes are
-- skipped first. In the last equation `byte` is the first one of the attribute. So `drop 1 bytes`
-- starts at offset 2 of the attribute, `drop 3 bytes` at offset 4, and 1 is subtracted from the
-- offset of the next attribute.
unfoldable pub attributes_after : ℕ → List ℕ → List Attribute
attributes_after n [] = []
attributes_after (suc n) (byte ∷ bytes) = attributes_after n bytes
attributes_after zero (byte ∷ bytes) = let nla_len = little_number 2 (byte ∷ bytes) in
    record { type_word = little_number 2 (drop 1 bytes); value = take (nla_len - 4) (drop 3 bytes) }
    ∷ attributes_after (nla_len + padding_length nla_len - 1) bytes

-- `HasNoAttributeError parses bytes`: the bytes have no error, neither in their framing nor in the
-- value of an attribute. `parses` decodes an attribute, or returns the error of its value. The
-- member `none` says that no `e` is an error of the bytes.
pub record HasNoAttributeError {A : Type 0} (parses : Attribute → Result A DecodeError)
    (bytes : List ℕ) : Type 0 where
  pub none : (e : DecodeError) → HasAttributeError parses bytes e → ⊥

-- `decoded_in parses bytes`: what the attributes in the bytes decode to by `parses`, in order.
-- Attributes that `parses` rejects are skipped. It is used of bytes without an error, in which
-- there are none.
abbrev pub decoded_in : {A : Type 0} → (Attribute → Result A DecodeError) → List ℕ → List A
decoded_in parses bytes = filter_map (λ a. result_ok (parses a)) (attributes_after 0 bytes)

-- `encoded_attributes_in set bytes`: what the attributes in the bytes serialize as once they are
-- decoded by the set, in order: each decoded value is encoded as an attribute again
abbrev pub encoded_attributes_in : AttributeSet → List ℕ → List Attribute
encoded_attributes_in set bytes =
    map (encode_attribute set) (decoded_in (decode_attribute set) bytes)

-- `IsLengthWithin limit attributes len`: `len` is `Some` of the number of the attributes' bytes,
-- with headers and paddings. It is `None` in three cases: the value of an attribute has more than
-- 65,531 bytes, this number is above the limit, or there is no limit.
abbrev pub IsLengthWithin : (limit : Option ℕ) → List Attribute → (len : Option ℕ) → Type 0
IsLengthWithin limit attributes len = MatchOption limit (len ≡ None) (λ bound.
    SomeIff len (AreWritableWithin attributes bound) (length (flat_map attribute_bytes attributes)))

-- `unread_values set walk`: what the attributes that the iterator has not read yet decode to by the
-- set, in order
abbrev pub unread_values : (set : AttributeSet) → NlasIterator → List (AttributeValue set)
unread_values set walk = decoded_in (decode_attribute set) (unread_bytes walk)

-- `reply_after spec header bytes`: the reply with this header, and with what the attributes in the
-- bytes decode to; `bytes` are the bytes after the header
abbrev pub reply_after : (spec : ResponseSpec) → spec.header.Value → List ℕ → ReplyValue spec
reply_after spec header bytes = record {
  header = header;
  nlas = decoded_in (decode_attribute spec.attribute_set) bytes;
}
