-- The name of a UNIX socket (`sun_path` of `struct sockaddr_un` in linux/un.h), and its bytes.
use Rattle.std.specs.Prelude.{◌≢◌, ◌+◌, ◌==◌, if◌then◌else◌, ℕ, zero, List, [], ◌∷◌, ◌++◌, length}
use Rattle.std.specs.Prelude.{take, ◌≤◌, All, Result, Ok, Err, ⊤}
use Rattle.std.specs.List.{position_or_len}
use Rattle.netlink_core.specs.Bytes.{IsBytes}
use Rattle.netlink_core.specs.Codec.{Codec, as_codec}
use Rattle.netlink_core.specs.ValueCodec.{ValueCodec}
use Rattle.netlink_core.specs.AttributeSpecs.{whole_value_codec}
use Rattle.netlink_core.specs.declared.error.DecodeError.{DecodeError}
use Rattle.netlink_core.specs.declared.error.DecodeError.TheVariants as errors
use Rattle.sock_diag_attributes.specs.declared.unix.name.SocketName.{SocketName}
use Rattle.sock_diag_attributes.specs.declared.unix.name.SocketName.TheVariants.{Pathname, Abstract}

-- `name_bytes name`: the bytes that the name serializes to: a path is followed by one zero byte; an
-- abstract name (unix(7)) starts with a zero byte
abbrev pub name_bytes : SocketName (List ℕ) → List ℕ
name_bytes (Pathname path) = path ++ 0 ∷ []
name_bytes (Abstract address) = 0 ∷ address

-- `IsNormalName name`: the name is in normal form: a path if it is not empty and contains no zero
-- byte, and every abstract name (`⊤`)
abbrev pub IsNormalName : SocketName (List ℕ) → Type 0
IsNormalName (Pathname path) = All (λ byte. byte ≢ 0) path × (path ≢ [])
IsNormalName (Abstract address) = ⊤

-- `parse_name bytes`: `Ok` of the name in all of the bytes, or `Err` of their error. No bytes are
-- `NameEmpty`. A name whose first byte is zero is abstract. Any other name is a path that ends at
-- the first zero byte, which must be the last byte. `end` is the index of the first zero byte, or
-- the length if there is none. A missing zero byte is `NameWithoutEnd`, and one before the last
-- byte is `NameInnerZero` with its index. The path `/a` is the bytes 2f 61 00; the abstract name
-- `a` is 00 61.
abbrev pub parse_name : List ℕ → Result (SocketName (List ℕ)) DecodeError
parse_name [] = Err errors.NameEmpty
parse_name (zero ∷ address) = Ok (Abstract address)
parse_name bytes = let end = position_or_len (λ byte. byte == 0) bytes in
    if end + 1 == length bytes then Ok (Pathname (take end bytes))
    else Err (if end == length bytes then errors.NameWithoutEnd else errors.NameInnerZero end)

-- The codec of a name, as the value of an attribute. The arguments of `whole_value_codec` are, in
-- this order: how a name is parsed, how it is serialized, when it is in range (if each number that
-- it serializes to is below 256), and when it is in normal form. Only equal bytes are equivalent.
abbrev pub name_value : ValueCodec (Unit {0})
name_value = whole_value_codec parse_name name_bytes
    (λ name. IsBytes (name_bytes name)) IsNormalName

-- `HasU32Length name`: the name serializes to at most 4,294,967,295 bytes (`u32::MAX`)
abbrev pub HasU32Length : SocketName (List ℕ) → Type 0
HasU32Length name = length (name_bytes name) ≤ 4294967295

-- The codec of a name by itself. Each name counts as needing memory (`⊥`), and is writable if the
-- number of its bytes fits a `u32`. The other members are those of `name_value`.
abbrev pub name_codec : Codec (Unit {0})
name_codec = record (as_codec name_value) {
  needs_no_memory = λ name. ⊥;
  is_writable = HasU32Length;
}
