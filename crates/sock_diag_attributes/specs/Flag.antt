-- A boolean in one byte, as the value of an attribute. The arguments of `whole_value_codec` are, in
-- this order: how a value is parsed, how it is serialized, which values are in range, and which are
-- in normal form.
use Rattle.std.specs.Prelude.{◌≡◌, ℕ, ◌==◌, ◌↔◌, not, if◌then◌else◌, Bool, List, [], ◌∷◌}
use Rattle.std.specs.Prelude.{slice_index, Some, Result, ⊤}
use Rattle.netlink_core.specs.declared.error.DecodeError.{DecodeError}
use Rattle.netlink_core.specs.ValueCodec.{ValueCodec}
use Rattle.netlink_core.specs.AttributeSpecs.{whole_value_codec}
use Rattle.netlink_core.specs.Errors.{map_ok}
use Rattle.netlink_core.specs.Parse.{number_of_width}

-- `parse_flag kind bytes`: `Ok` of the flag in exactly one byte, which is true if the byte is not
-- zero. Any other length is `WrongLength`, which contains the kind of the attribute.
abbrev pub parse_flag : (kind : ℕ) → List ℕ → Result Bool DecodeError
parse_flag kind bytes = map_ok (λ byte. not (byte == 0)) (number_of_width (Some kind) 1 bytes)

-- `flag_value kind`: the codec of a flag, as the value of an attribute of this kind. True
-- serializes to 1, and false to 0. Each flag is in range and in normal form (`⊤`). Only
-- `equivalent` differs from `whole_value_codec`: two values, accepted and so of one byte, are
-- equivalent if both are zero or neither is zero. The parameter (`param`) is `tt`.
abbrev pub flag_value : (kind : ℕ) → ValueCodec (Unit {0})
flag_value kind = record (whole_value_codec (parse_flag kind)
    (λ flag. (if flag then 1 else 0) ∷ []) (λ flag. ⊤) (λ flag. ⊤)) {
      equivalent = λ param left right. (slice_index left 0 ≡ 0) ↔ (slice_index right 0 ≡ 0);
    }
