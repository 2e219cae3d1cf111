-- Return values of checks and getters, and what they store.
use Rattle.std.specs.Prelude.{◌≡◌, ◌≢◌, ℕ, ◌-◌, ◌⊎◌, List, [], ◌++◌, length, replicate, take}
use Rattle.std.specs.Prelude.{Option, Some, None}
use Rattle.netlink_core.specs.declared.error.DecodeError.{DecodeError}
use Rattle.netlink_core.specs.declared.error.DecodeError.TheVariants.{WrongLength}
use Rattle.netlink_core.specs.Errors.{error_code}
use Rattle.sockdiag_c.specs.declared.results.TheConstants.{END}

-- A call with one output parameter of type `T`: a number, a struct or a buffer of the caller.
pub record Call (T : Type 0) : Type 0 where
  -- the contents of the output parameter before and after the call
  pub old : T
  pub new : T
  -- the return value
  pub returned : ℕ

-- A check of bytes: which values (of type `V`) and errors they have, and what is stored in the
-- output parameter (of type `T`) for a value.
pub record Check (V T : Type 0) : Type 1 where
  -- `parses v`: the bytes have the value `v`
  pub parses : V → Type 0
  -- `rejects e`: `e` is the first error of the bytes
  pub rejects : DecodeError → Type 0
  -- `found v`: the output parameter for the value `v`
  pub found : V → T

-- `IsCheckResult check call`: either the bytes have a value `v`, `found v` is stored, and the
-- return value is 0. Or they have a first error `e`, nothing is stored, and the return value is the
-- code of `e`.
abbrev pub IsCheckResult : {V T : Type 0} → Check V T → Call T → Type 0
IsCheckResult {V} check call =
    ((call.returned ≡ 0) × ((v : V) × check.parses v × (call.new ≡ check.found v)))
    ⊎ ((e : DecodeError) × check.rejects e × (call.returned ≡ error_code e)
    × (call.new ≡ call.old))

-- the code of the error of a value that does not have the length that it needs, whatever lengths
-- these are
abbrev pub wrong_length : ℕ
wrong_length = error_code (WrongLength None 0 0)

-- `IsGetterResult item call`: if `item` is `Some`, it is stored, and the return value is 0; else
-- the return value is the code of WrongLength, and nothing is stored
abbrev pub IsGetterResult : {T : Type 0} → Option T → Call T → Type 0
IsGetterResult (Some item) call = (call.returned ≡ 0) × (call.new ≡ item)
IsGetterResult None call = (call.returned ≡ wrong_length) × (call.new ≡ call.old)

-- `SetsTargetIf condition IsTarget call`: if the condition holds, the output parameter is set to a
-- value for which `IsTarget` holds, and the return value is 0; else the return value is the code of
-- WrongLength, and nothing is stored
abbrev pub SetsTargetIf : {T : Type 0} → Type 0 → (T → Type 0) → Call T → Type 0
SetsTargetIf condition IsTarget call =
    (condition × (call.returned ≡ 0) × IsTarget call.new)
    ⊎ ((¬ condition) × (call.returned ≡ wrong_length) × (call.new ≡ call.old))

-- `IsStoredIf condition item call`: if the condition holds, `item` is stored, and the return value
-- is 0; else the return value is the code of WrongLength, and nothing is stored
abbrev pub IsStoredIf : {T : Type 0} → Type 0 → T → Call T → Type 0
IsStoredIf {T} condition item call = SetsTargetIf condition (λ (new : T). new ≡ item) call

-- `padded_or_truncated n value`: exactly n bytes: the first n bytes of the value; or, if the value
-- is shorter, the value followed by zeros
abbrev pub padded_or_truncated : ℕ → List ℕ → List ℕ
padded_or_truncated n value = take n value ++ replicate (n - length value) 0

-- `FillsStruct HasContents IsCode call`: a call fills a struct of the caller, of which it knows the
-- first fields, the first component of `call.new`. The bytes after them, the second component, are
-- of fields that a later version of the header appends. If the return value is 0, `HasContents`
-- holds of the fields that it knows, and the bytes after them are zeros. Otherwise the return value
-- is a code for which `IsCode` holds, and nothing is stored.
abbrev pub FillsStruct : {D : Type 0} → (D → Type 0) → (ℕ → Type 0) → Call (D × List ℕ) → Type 0
FillsStruct HasContents IsCode call =
    (call.returned ≡ 0
    → HasContents call.new.0 × (call.new.1 ≡ padded_or_truncated (length call.old.1) []))
    × (call.returned ≢ 0 → IsCode call.returned × (call.new ≡ call.old))

-- `CopiesValue value call`: a call copies the value of an attribute to a struct of the caller,
-- whose bytes are the first component of `call.new`, and stores the length of the value, the second
-- one. If there is no value (`[]`), the return value is END, and nothing is stored.
abbrev pub CopiesValue : List ℕ → Call (List ℕ × ℕ) → Type 0
CopiesValue value call =
    (value ≢ [] → (call.returned ≡ 0)
    × (call.new ≡ (padded_or_truncated (length call.old.0) value, length value)))
    × (value ≡ [] → (call.returned ≡ END) × (call.new ≡ call.old))

-- `IsOneIf condition returned`: the return value is 1 if the condition holds, else 0
abbrev pub IsOneIf : Type 0 → ℕ → Type 0
IsOneIf condition returned =
    (condition × (returned ≡ 1)) ⊎ ((¬ condition) × (returned ≡ 0))
