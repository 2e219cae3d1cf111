-- The attributes in bytes, one after another, each at a multiple of 4, up to the end or to bytes
-- that are not an attribute. A piece is such an attribute, or else the error of those bytes, which
-- is the last piece. An attribute is a `struct nlattr` (linux/netlink.h): `nla_len` at 0,
-- `nla_type` at 2, and the value from 4 on. `nla_len` counts these four bytes and the value.
use Rattle.std.specs.Prelude.{ℕ, zero, suc, ◌+◌, ◌-◌, ◌==◌, nat_lt, if◌then◌else◌, List, [], ◌∷◌}
use Rattle.std.specs.Prelude.{drop, length, take, Option, None, Some, Result}
use Rattle.std.specs.Prelude.{Ok, Err}
use Rattle.std.specs.Iterator.{YieldsFirstBy}
use Rattle.byteorder.specs.Endian.{little_number}
use Rattle.netlink_core.specs.Attribute.{Attribute, padding_length, attribute_kind}
use Rattle.netlink_core.specs.Errors.{map_ok}
use Rattle.netlink_core.specs.Walk.{buffered_attribute, unread_bytes}
use Rattle.netlink_core.specs.declared.attribute.NlaBuffer.{NlaBuffer}
use Rattle.netlink_core.specs.declared.attribute.NlasIterator.{NlasIterator}
use Rattle.netlink_core.specs.declared.error.DecodeError.{DecodeError}
use Rattle.netlink_core.specs.declared.error.DecodeError.TheVariants.{AttributeHeaderCut}
use Rattle.netlink_core.specs.declared.error.DecodeError.TheVariants.{AttributeLengthUnder4}
use Rattle.netlink_core.specs.declared.error.DecodeError.TheVariants.{AttributeLengthPast}

-- an attribute, or the error of bytes that are not one
abbrev pub AttributeOrError : Type 0
AttributeOrError = Result Attribute DecodeError

-- `first_attribute_or_error b`: the attribute at the start of the bytes `b`, or the first of these
-- errors that applies: there are fewer than four bytes; `nla_len` is below 4; it is greater than
-- the number of bytes
abbrev pub first_attribute_or_error : List ℕ → AttributeOrError
first_attribute_or_error b =
    let nla_len = little_number 2 b in
    if nat_lt (length b) 4 then Err (AttributeHeaderCut (length b))
    else if nat_lt nla_len 4 then Err (AttributeLengthUnder4 nla_len)
    else if nat_lt (length b) nla_len then Err (AttributeLengthPast nla_len (length b))
    else Ok (record {
      type_word = little_number 2 (drop 2 b);
      value = take (nla_len - 4) (drop 4 b);
    })

-- `before_error first later`: the piece `first`, and then the pieces `later` if it is an attribute;
-- an error is the last piece
abbrev pub before_error : AttributeOrError → List AttributeOrError → List AttributeOrError
before_error (Ok a) later = Ok a ∷ later
before_error (Err e) later = Err e ∷ []

-- `attributes_or_error skipped bytes`: the pieces in the bytes after the first `skipped` ones. The
-- next attribute starts at the next multiple of 4: `padding_length nla_len` is the number of
-- padding bytes after `nla_len` bytes. The first of these bytes is `byte`, so one less remains to
-- be skipped.
unfoldable pub attributes_or_error : ℕ → List ℕ → List AttributeOrError
attributes_or_error skipped [] = []
attributes_or_error zero (byte ∷ bytes) =
    let nla_len = little_number 2 (byte ∷ bytes) in
    before_error (first_attribute_or_error (byte ∷ bytes))
    (attributes_or_error (nla_len + padding_length nla_len - 1) bytes)
attributes_or_error (suc skipped) (byte ∷ bytes) = attributes_or_error skipped bytes

-- `pieces_in bytes`: each attribute in the bytes, in order, and then the framing error of the bytes
-- after the last one, if there are any
abbrev pub pieces_in : List ℕ → List AttributeOrError
pieces_in bytes = attributes_or_error 0 bytes

-- the pieces that an attribute iterator has not yielded yet
abbrev pub pieces_left : NlasIterator → List AttributeOrError
pieces_left walk = pieces_in (unread_bytes walk)

-- `YieldsFirstPiece old item new`: the iterator `old` yielded its first piece, or None if no piece
-- was left; it then is `new`, to which the later pieces are left
abbrev pub YieldsFirstPiece : NlasIterator → Option (Result NlaBuffer DecodeError) → NlasIterator
    → Type 0
YieldsFirstPiece old item new =
    YieldsFirstBy (map_ok buffered_attribute) pieces_left old item new

-- `framing_error_of pieces`: the error after the last attribute, or None if there is none
abbrev pub framing_error_of : List AttributeOrError → Option DecodeError
framing_error_of [] = None
framing_error_of (Ok a ∷ later) = framing_error_of later
framing_error_of (Err e ∷ later) = Some e

-- `first_of_kind kind pieces`: the first attribute of this type, compared without its two flag
-- bits; None if there is none
abbrev pub first_of_kind : ℕ → List AttributeOrError → Option Attribute
first_of_kind kind [] = None
first_of_kind kind (Ok a ∷ later) =
    if attribute_kind a == kind then Some a else first_of_kind kind later
first_of_kind kind (Err e ∷ later) = first_of_kind kind later

-- `last_after kind found pieces`: the last attribute of this type, compared as by `first_of_kind`,
-- or `found` if there is none
abbrev pub last_after : ℕ → Option Attribute → List AttributeOrError → Option Attribute
last_after kind found [] = found
last_after kind found (Ok a ∷ later) =
    last_after kind (if attribute_kind a == kind then Some a else found) later
last_after kind found (Err e ∷ later) = last_after kind found later

-- `last_of_kind kind pieces`: the last attribute of this type, or None if there is none
abbrev pub last_of_kind : ℕ → List AttributeOrError → Option Attribute
last_of_kind kind pieces = last_after kind None pieces
