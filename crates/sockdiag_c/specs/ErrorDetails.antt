-- The fields of a decode error: `struct sockdiag_error_details`.
use Rattle.std.specs.Prelude.{◌≡◌, ◌≢◌, ℕ, ◌⊎◌, List, [], MatchOption, Option, Some, None}
use Rattle.std.specs.Result.{result_err}
use Rattle.netlink_core.specs.Attribute.{Attribute, IsFramingError, StartsWithAttribute}
use Rattle.netlink_core.specs.AttributeSet.{AttributeSet, decode_attribute}
use Rattle.netlink_core.specs.declared.error.DecodeError.{DecodeError}
use Rattle.netlink_core.specs.declared.error.DecodeError.TheVariants as error
use Rattle.netlink_core.specs.declared.error.RecordName.{RecordName}
use Rattle.netlink_core.specs.declared.error.RecordName.TheVariants as record_name
use Rattle.netlink_core.specs.Errors.{error_code}
use Rattle.sockdiag_c.specs.Answers.{Call}
use Rattle.sockdiag_c.specs.Details.{optional_number}
use Rattle.sockdiag_c.specs.declared.error_details.ErrorDetails.{ErrorDetails}

-- `record_code name`: the number `SOCKDIAG_RECORD_..` of the record with this name
abbrev pub record_code : RecordName → ℕ
record_code record_name.SocketId = 1
record_code record_name.InetRequest = 2
record_code record_name.InetResponseHeader = 3
record_code record_name.UnixRequest = 4
record_code record_name.UnixResponseHeader = 5
record_code record_name.LegacyMemInfo = 6
record_code record_name.MemInfo = 7
record_code record_name.TcpInfo = 8
record_code record_name.Vfs = 9
record_code record_name.UnixMemInfo = 10
record_code (record_name.FamilyRequest family) = 11
record_code (record_name.FamilyResponseHeader family) = 12
record_code (record_name.FamilyAttribute family kind) = 13

-- `record_family name`: the address family that the name of a record contains; 0 if it contains
-- none
abbrev pub record_family : RecordName → ℕ
record_family (record_name.FamilyRequest family) = family
record_family (record_name.FamilyResponseHeader family) = family
record_family (record_name.FamilyAttribute family kind) = family
record_family name = 0

-- `record_kind name`: the kind of attribute that the name of a record contains; None if it contains
-- none
abbrev pub record_kind : RecordName → Option ℕ
record_kind (record_name.FamilyAttribute family kind) = Some kind
record_kind name = None

-- `struct sockdiag_error_details` with all members 0
abbrev pub no_error_details : ErrorDetails
no_error_details = record {
  code = 0;
  record_name = 0;
  family = 0;
  kind = optional_number None;
  got = 0;
  need = 0;
  length = 0;
  index = 0;
  offset = 0;
}

-- `error_fields e`: the struct with the fields of the error `e`, each in the member with its name.
-- All other members are 0, also `code`. Two fields of errors have other members: `left`, the number
-- of bytes left, is in `got`; and `which`, the record, is in `record_name`, `family` and `kind`.
-- The last line is for all errors without fields, and for UnknownMessageType, whose field is in the
-- header of the message. `offset` is not a field of an error (HasOffset).
abbrev pub error_fields : DecodeError → ErrorDetails
error_fields (error.BufferTooSmall which got need) = record no_error_details {
  record_name = record_code which;
  family = record_family which;
  kind = optional_number (record_kind which);
  got = got;
  need = need;
}
error_fields (error.UnsupportedFamily family) = record no_error_details { family = family }
error_fields (error.MessageTooShort got) = record no_error_details { got = got }
error_fields (error.UnknownFamily family) = record no_error_details { family = family }
error_fields (error.AttributeHeaderCut left) = record no_error_details { got = left }
error_fields (error.AttributeLengthUnder4 length) = record no_error_details { length = length }
error_fields (error.AttributeLengthPast length left) =
    record no_error_details { length = length; got = left }
error_fields (error.WrongLength kind got need) =
    record no_error_details { kind = optional_number kind; got = got; need = need }
error_fields (error.NotMultipleOfFour got) = record no_error_details { got = got }
error_fields (error.NameInnerZero index) = record no_error_details { index = index }
error_fields (error.EnvelopeCut got) = record no_error_details { got = got }
error_fields (error.EnvelopeLengthUnder16 length) = record no_error_details { length = length }
error_fields (error.EnvelopeLengthPast length got) =
    record no_error_details { length = length; got = got }
error_fields e = no_error_details

-- `error_details_of e`: the struct for the error `e`, with its code and its fields
abbrev pub error_details_of : DecodeError → ErrorDetails
error_details_of e = record (error_fields e) { code = error_code e }

-- `IsExplained parses rejects call`: either the bytes have a value (`parses v` holds for some `v`),
-- the return value is 0, and nothing is stored. Or they have a first error `e` (`rejects e`), the
-- return value is its code, and its code and its fields are stored.
abbrev pub IsExplained : {V : Type 0} → (V → Type 0) → (DecodeError → Type 0) → Call ErrorDetails
    → Type 0
IsExplained {V} parses rejects call =
    (((v : V) × parses v) × (call.returned ≡ 0) × (call.new ≡ call.old))
    ⊎ ((e : DecodeError) × rejects e × (call.returned ≡ error_code e)
    × (call.new ≡ error_details_of e))

-- `IsFirstItemError F bytes o`: `o` is the error of the first item of the bytes, for the attribute
-- set `F`, or None, by one of:
-- - There are no bytes (`[]`), and no error.
-- - The bytes start with an attribute, and `o` is the error with which `F` rejects it, if it does.
--   `later` are the bytes after the attribute.
-- - The bytes start with a framing error, and `o` is this error.
abbrev pub IsFirstItemError : AttributeSet → List ℕ → Option DecodeError → Type 0
IsFirstItemError F bytes o =
    ((bytes ≡ []) × (o ≡ None))
    ⊎ ((a : Attribute) × (later : List ℕ) × StartsWithAttribute bytes a later
    × (o ≡ result_err (decode_attribute F a)))
    ⊎ ((e : DecodeError) × (bytes ≢ []) × IsFramingError bytes e × (o ≡ Some e))

-- `IsItemExplained F bytes call`: if the first item of the bytes has no error, the return value is
-- 0, and nothing is stored. If it has one, the return value is its code, and its code and its
-- fields are stored.
abbrev pub IsItemExplained : AttributeSet → List ℕ → Call ErrorDetails → Type 0
IsItemExplained F bytes call = (o : Option DecodeError) × IsFirstItemError F bytes o
    × MatchOption o ((call.returned ≡ 0) × (call.new ≡ call.old))
    (λ e. (call.returned ≡ error_code e) × (call.new ≡ error_details_of e))
