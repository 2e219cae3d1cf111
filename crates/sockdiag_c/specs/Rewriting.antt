-- The canonical form of replies, written to a buffer.
use Rattle.std.specs.Prelude.{◌≡◌, ℕ, ◌<◌, ◌≤◌, ◌↔◌, ◌⊎◌, List, ◌++◌, length, drop}
use Rattle.netlink_core.specs.Bytes.{IsBytes}
use Rattle.netlink_core.specs.declared.error.DecodeError.{DecodeError}
use Rattle.netlink_core.specs.Errors.{error_code}
use Rattle.netlink_core.specs.Response.{ResponseSpec, ReplyValue, response_bytes, response_codec}
use Rattle.sockdiag_c.specs.declared.results.TheConstants.{NO_SPACE, TOO_LONG}

-- How bytes of the caller are converted to the bytes that are written, by a value of type `V`.
pub record Conversion (V : Type 0) : Type 1 where
  -- `parses v`: the bytes of the caller have the value `v`
  pub parses : V → Type 0
  -- `rejects e`: `e` is the first error of these bytes
  pub rejects : DecodeError → Type 0
  -- `is_writable v`: the value `v` can be serialized
  pub is_writable : V → Type 0
  -- `serialized v`: the bytes that the value `v` serializes to
  pub serialized : V → List ℕ

-- A call that converts bytes of the caller and writes them to a buffer.
pub record WriteCall : Type 0 where
  -- the buffer before and after the call
  pub old : List ℕ
  pub new : List ℕ
  -- the number that is stored: how many bytes were written, or the buffer has to have
  pub written : ℕ
  -- the return value
  pub returned : ℕ

-- `WritesNothing needed code call`: the buffer is unchanged, the number that is stored is `needed`,
-- and the return value is the code
abbrev pub WritesNothing : ℕ → ℕ → WriteCall → Type 0
WritesNothing needed code call =
    (call.returned ≡ code) × (call.written ≡ needed) × (call.new ≡ call.old)

-- `WritesValue is_writable bytes call`: `is_writable` states that the value is writable, and
-- `bytes` are the bytes that it serializes to. One of three holds:
-- - The value is writable and the buffer is long enough. The bytes are written at its start, the
--   bytes after them are unchanged, their number is stored, and the return value is 0.
-- - The value is writable and the buffer is too short. Nothing is written, the number of the bytes
--   is stored, and the return value is NO_SPACE.
-- - The value is not writable. Nothing is written, 0 is stored, and the return value is TOO_LONG.
abbrev pub WritesValue : Type 0 → List ℕ → WriteCall → Type 0
WritesValue is_writable bytes call =
    (is_writable × (length bytes ≤ length call.old) × (call.returned ≡ 0)
    × (call.written ≡ length bytes) × (call.new ≡ bytes ++ drop (length bytes) call.old))
    ⊎ ((is_writable × (length call.old < length bytes)
    × WritesNothing (length bytes) NO_SPACE call)
    ⊎ (¬ is_writable × WritesNothing 0 TOO_LONG call))

-- `ParsesAndWrites conversion call`: either the bytes of the caller have a value `v`, which is
-- written if it is writable and the buffer is long enough (`WritesValue`). Or they have a first
-- error `e`, whose code is returned; nothing is written, and 0 is stored.
abbrev pub ParsesAndWrites : {V : Type 0} → Conversion V → WriteCall → Type 0
ParsesAndWrites {V} conversion call =
    ((v : V) × conversion.parses v
    × WritesValue (conversion.is_writable v) (conversion.serialized v) call)
    ⊎ ((e : DecodeError) × conversion.rejects e × WritesNothing 0 (error_code e) call)

-- `reply_conversion R payload`: the payload is parsed as a reply by the codec of `R`, and the value
-- is serialized.
abbrev pub reply_conversion : (R : ResponseSpec) → List ℕ → Conversion (ReplyValue R)
reply_conversion R payload = record {
  parses = (response_codec R).parses payload tt;
  rejects = (response_codec R).rejects payload tt;
  is_writable = (response_codec R).is_writable;
  serialized = response_bytes R;
}

-- `IsCanonicalForm R payload written`: `written` is the canonical form of the payload, for replies
-- of `R`. That is a statement about all replies `d` (bytes, each below 256) that parse as a
-- writable value `w`: `w` serializes to `written` if and only if `d` is equivalent to the payload.
abbrev pub IsCanonicalForm : ResponseSpec → List ℕ → List ℕ → Type 0
IsCanonicalForm R payload written =
    (d : List ℕ) (w : ReplyValue R) → IsBytes d → (response_codec R).parses d tt w
    → (response_codec R).is_writable w
    → ((response_bytes R w ≡ written) ↔ (response_codec R).equivalent tt payload d)
