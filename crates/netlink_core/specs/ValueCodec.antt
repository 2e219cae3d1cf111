-- The codec of a part of a message: of a header, or of the value of an attribute.
use Rattle.std.specs.Prelude.{ℕ, List, Result}
use Rattle.netlink_core.specs.declared.error.DecodeError.{DecodeError}
use Rattle.netlink_core.specs.Layout.{Layout, parse_record, record_bytes, AreEquivalent, IsInRange}
use Rattle.netlink_core.specs.Layout.{IsNormal}

-- How a part of a message is parsed, with a parameter, and serialized. A record may be followed by
-- other bytes, which are ignored; a text or a flag takes all bytes. In the comments `b` and `c` are
-- byte strings, `p` is the parameter (`tt` if there is none) and `v` is a value. In `parses` the
-- parameter is the first argument, while it is the second one in `parses` of a `Codec`.
pub record ValueCodec (Param : Type 0) : Type 1 where
  -- the type of the values
  pub Value : Type 0
  -- `parses p b`: `Ok` of the value of `b`, or `Err` of its first error
  pub parses : Param → List ℕ → Result Value DecodeError
  -- `bytes v`: the bytes that `v` serializes to
  pub bytes : Value → List ℕ
  -- `equivalent p b c`: the accepted byte strings `b` and `c` are equivalent: they differ only in
  -- ignored bits
  pub equivalent : Param → List ℕ → List ℕ → Type 0
  -- `is_in_range v`: each number of `v` fits its field
  pub is_in_range : Value → Type 0
  -- `is_normal p v`: `v` is in normal form, the form of every parsed value
  pub is_normal : Param → Value → Type 0

-- `value_codec layout`: the codec of a record, given its layout; the module `Layout` defines each
-- member
abbrev pub value_codec : {Param Tag Value : Type 0} → Layout Param Tag Value → ValueCodec Param
value_codec {Param} {Tag} {Value} layout = record {
  Value = Value;
  parses = parse_record layout;
  bytes = record_bytes layout;
  equivalent = AreEquivalent layout;
  is_in_range = IsInRange layout;
  is_normal = IsNormal layout;
}
