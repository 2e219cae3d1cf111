-- How replies are read into the structs of C: for each family how its attributes are decoded, and a
-- table of rows, which says what fields have the decoded values.
use Rattle.std.specs.Prelude.{◌≡◌, ◌≢◌, ◌<◌, ℕ, ◌⊎◌, ◌==◌, if◌then◌else◌, List, [], ◌∷◌, drop, ⊤}
use Rattle.std.specs.Prelude.{Option, Some, None, option_and_then, slice_index}
use Rattle.std.specs.Prelude.{Result, Ok, Err}
use Rattle.std.specs.Result.{result_ok, result_err}
use Rattle.std.specs.Option.{option_or}
use Rattle.netlink_core.specs.Attribute.{Attribute, IsFramingError, SplitsIntoAttributes}
use Rattle.netlink_core.specs.Attribute.{SplitsUntilError, attribute_kind}
use Rattle.netlink_core.specs.Errors.{error_code}
use Rattle.netlink_core.specs.Response.{ResponseSpec, ReplyValue, response_codec}
use Rattle.netlink_core.specs.declared.error.DecodeError.{DecodeError}
use Rattle.sock_diag_replies.specs.UnixGetters.{first_content_of}
use Rattle.sockdiag_c.specs.Answers.{Call, FillsStruct}
use Rattle.sockdiag_c.specs.declared.lenient.Rejections.{Rejections}
use Rattle.sockdiag_c.specs.declared.lenient.TheConstants.{REJECTION_KINDS}

-- ---- the table of a family

-- One row of a table: a part of what an attribute says, and the fields that have it in the struct
-- `D`. `V` is the type of what attributes say.
pub record StructRow (V D : Type 0) : Type 1 where
  -- the type of the part
  pub Part : Type 0
  -- `part v`: the part that `v` has; None if `v` is of a kind without this part
  pub part : V → Option Part
  -- the type of the fields
  pub Fields : Type 0
  -- `fields d`: the fields of the struct `d`
  pub fields : D → Fields
  -- `contents o`: what the fields contain if the part is `o`; zeros if there is no part (None)
  pub contents : Option Part → Fields

-- How replies about the sockets of one family are read into the struct `D`.
pub record Family (D : Type 0) : Type 1 where
  -- the type of the header in the struct
  pub Header : Type 0
  -- `parse_header payload`: the header at the start of the payload, or its error
  pub parse_header : List ℕ → Result Header DecodeError
  -- the number of the header's bytes, after which the attributes start
  pub header_size : ℕ
  -- `header d`: the header in the struct `d`
  pub header : D → Header
  -- the type of what attributes say
  pub Value : Type 0
  -- `read a`: what the attribute `a` says, or its error
  pub read : Attribute → Result Value DecodeError
  -- one row for each field, or for each record with its field `has_..`
  pub rows : List (StructRow Value D)

-- ---- the values of attributes

-- `part_in read row a`: the part for this row of what `read` returns for the attribute `a`; None if
-- `a` is of a kind without this part, or is rejected
abbrev pub part_in : {V D : Type 0} → (Attribute → Result V DecodeError) → (row : StructRow V D)
    → Attribute → Option row.Part
part_in read row a = option_and_then row.part (result_ok (read a))

-- `HasValues read rows d attributes`: for each row, the struct `d` has the part of the first of
-- these attributes that has one. If none of them has one, the fields of the row are zeros.
abbrev pub HasValues : {V D : Type 0} → (Attribute → Result V DecodeError) → List (StructRow V D)
    → D → List Attribute → Type 0
HasValues read [] d attributes = ⊤
HasValues read (row ∷ others) d attributes =
    (row.fields d ≡ row.contents (first_content_of (part_in read row) attributes))
    × HasValues read others d attributes

-- ---- a reply

-- The parts of a reply, whose header has the type `H`.
pub record ReplyParts (H : Type 0) : Type 0 where
  pub header : H
  -- the attributes after the header, up to the end or to a framing error
  pub attributes : List Attribute
  -- the framing error of the bytes after the attributes, if any
  pub framing_error : Option DecodeError

-- `SplitsWithError attributes end bytes`: the bytes are these attributes, each with its padding. If
-- `end` is None, nothing follows them (`[]`). If it is `Some e`, bytes follow that do not begin
-- with an attribute, and `e` is their framing error.
abbrev pub SplitsWithError : List Attribute → Option DecodeError → List ℕ → Type 0
SplitsWithError attributes None bytes = SplitsIntoAttributes bytes attributes []
SplitsWithError attributes (Some e) bytes = SplitsUntilError IsFramingError bytes attributes e

module _ {D : Type 0} (family : Family D) where
  -- `ArePartsOf family payload parts`: these are the parts of the reply in the payload: its header;
  -- and the attributes and the framing error, if any, of the bytes after the header
  abbrev pub ArePartsOf : List ℕ → ReplyParts family.Header → Type 0
  ArePartsOf payload parts =
      (family.parse_header payload ≡ Ok parts.header)
      × SplitsWithError parts.attributes parts.framing_error (drop family.header_size payload)

  -- `HasHeaderAndValuesOf family d parts`: the struct `d` has the header and the values of these
  -- parts
  abbrev pub HasHeaderAndValuesOf : D → ReplyParts family.Header → Type 0
  HasHeaderAndValuesOf d parts =
      (family.header d ≡ parts.header) × HasValues family.read family.rows d parts.attributes

  -- `value_error family a`: the error of the attribute `a`; None if it has none
  abbrev pub value_error : Attribute → Option DecodeError
  value_error a = result_err (family.read a)

  -- `first_error family parts`: the first error after the header, in the order of the bytes: the
  -- error of the first rejected attribute; if none is rejected, the framing error. None if there is
  -- no error.
  abbrev pub first_error : ReplyParts family.Header → Option DecodeError
  first_error parts =
      option_or (first_content_of value_error parts.attributes) parts.framing_error

  -- `AreDetailsOf family payload d`: the reply in the payload has no error, and the struct `d` has
  -- its header and values
  abbrev pub AreDetailsOf : List ℕ → D → Type 0
  AreDetailsOf payload d = (parts : ReplyParts family.Header) × ArePartsOf payload parts
      × (first_error parts ≡ None) × HasHeaderAndValuesOf d parts

  -- `IsHeaderError family payload e`: the header at the start of the payload is rejected with `e`
  abbrev pub IsHeaderError : List ℕ → DecodeError → Type 0
  IsHeaderError payload e = family.parse_header payload ≡ Err e

  -- `IsFirstError family payload e`: `e` is the first error of the reply in the payload: the error
  -- of the header; if the header has none, the first error after it
  abbrev pub IsFirstError : List ℕ → DecodeError → Type 0
  IsFirstError payload e =
      IsHeaderError payload e
      ⊎ ((parts : ReplyParts family.Header) × ArePartsOf payload parts
      × (first_error parts ≡ Some e))

  -- ---- lenient

  -- `error_of_kind family kind a`: the error of the attribute `a`, if `a` has this kind and is
  -- rejected; else None
  abbrev pub error_of_kind : ℕ → Attribute → Option DecodeError
  error_of_kind kind a = if attribute_kind a == kind then value_error a else None

-- `optional_code error`: the code of the error; 0 if there is none (None). No error has the code 0.
abbrev pub optional_code : Option DecodeError → ℕ
optional_code None = 0
optional_code (Some e) = error_code e

module _ {D : Type 0} (family : Family D) where
  -- `HasRejections family r parts`: the struct `r` has the code of the first error, the code of the
  -- framing error, and for each kind below REJECTION_KINDS the code of the first error of an
  -- attribute of this kind. Each is 0 if there is no such error. The contract of
  -- `every_rejected_kind_has_a_code` in src/laws.rt states that no other kind has errors.
  abbrev pub HasRejections : Rejections → ReplyParts family.Header → Type 0
  HasRejections r parts =
      (r.first ≡ optional_code (first_error family parts))
      × (r.framing ≡ optional_code parts.framing_error)
      × ((kind : ℕ) → kind < REJECTION_KINDS → slice_index r.errors kind
      ≡ optional_code (first_content_of (error_of_kind family kind) parts.attributes))

  -- `LenientDetailsAre family payload (d, r)`: the header of the reply in the payload is accepted.
  -- The struct `d` has the header and the first valid values, and `r` has the codes of the errors
  -- (`HasRejections`).
  abbrev pub LenientDetailsAre : List ℕ → D × Rejections → Type 0
  LenientDetailsAre payload (d, r) =
      (parts : ReplyParts family.Header) × ArePartsOf family payload parts
      × HasHeaderAndValuesOf family d parts × HasRejections r parts

-- `IsCodeOf rejects code`: `code` is the code of an error `e` for which `rejects e` holds
abbrev pub IsCodeOf : (DecodeError → Type 0) → ℕ → Type 0
IsCodeOf rejects code = (e : DecodeError) × rejects e × (code ≡ error_code e)

module _ {D : Type 0} (family : Family D) where
  -- `StoresDetails family payload call`: a strict call: it fills a struct with the details of the
  -- reply in the payload, or returns the code of the first error (`FillsStruct`)
  abbrev pub StoresDetails : List ℕ → Call (D × List ℕ) → Type 0
  StoresDetails payload call =
      FillsStruct (AreDetailsOf family payload) (IsCodeOf (IsFirstError family payload)) call

  -- `StoresLenientDetails family payload call`: a lenient call: it fills a struct with the details
  -- of the reply, and another one with the rejections; or returns the code of the error of the
  -- header
  abbrev pub StoresLenientDetails : List ℕ → Call ((D × Rejections) × List ℕ) → Type 0
  StoresLenientDetails payload call =
      FillsStruct (LenientDetailsAre family payload) (IsCodeOf (IsHeaderError family payload)) call

  -- ---- properties of the calls

  -- `CallsAgree family`: for each payload, let `d` and `r` be the details and the rejections of the
  -- lenient call. If `r.first` is 0, `d` are also the details of the strict call. Otherwise
  -- `r.first` is the code of the first error of the reply, which the strict call returns.
  abbrev pub CallsAgree : Type 0
  CallsAgree = (payload : List ℕ) (d : D) (r : Rejections) → LenientDetailsAre family payload (d, r)
      → (r.first ≡ 0 → AreDetailsOf family payload d)
      × (r.first ≢ 0 → IsCodeOf (IsFirstError family payload) r.first)

  -- `AgreesWithCodec family R`: each payload for which the strict call returns details parses by
  -- the codec of `R`, as some value `v`; and each error of the strict call is an error by this
  -- codec. So the call and the codec accept the same payloads.
  abbrev pub AgreesWithCodec : ResponseSpec → Type 0
  AgreesWithCodec R =
      ((payload : List ℕ) (d : D) → AreDetailsOf family payload d
      → (v : ReplyValue R) × (response_codec R).parses payload tt v)
      × ((payload : List ℕ) (e : DecodeError) → IsFirstError family payload e
      → (response_codec R).rejects payload tt e)

  -- `EveryRejectedKindHasCode family`: if an attribute `a` is rejected with an error `e`, its kind
  -- is below REJECTION_KINDS, so that `errors` of the rejections has an element for it
  abbrev pub EveryRejectedKindHasCode : Type 0
  EveryRejectedKindHasCode = (a : Attribute) (e : DecodeError)
      → value_error family a ≡ Some e → attribute_kind a < REJECTION_KINDS
