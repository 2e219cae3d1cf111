-- Output on standard error: diagnostics of packets, and the line that names a failure. Texts are
-- lists of bytes. `front` is the prefix of each line, and 10 is a line feed.
use Rattle.std.specs.Prelude.{◌≡◌, ℕ, nat_lt, if◌then◌else◌, Bool, true, false, List, [], ◌∷◌, ◌++◌}
use Rattle.std.specs.Prelude.{codes, decimal, Option}
use Rattle.std.specs.Io.KnownBytes.{Appends}
use Rattle.netlink_captures.specs.ErrorText.{capture_error_text}
use Rattle.program_streams.specs.Streams.{os_error_end, write_error_text}
use Rattle.program_streams.specs.declared.streams.WriteError.{WriteError}
use Rattle.program_streams.specs.declared.streams.WriteError.TheVariants.{Closed, Os, Other}
use Rattle.sslist_texts.specs.declared.list_error.ListError.{ListError}
use Rattle.sslist_texts.specs.declared.list_error.ListError.TheVariants as errors

-- ---- diagnostics of packets

-- `packet_line front number text`: the line with this text about the packet of this number
abbrev pub packet_line : List ℕ → ℕ → List ℕ → List ℕ
packet_line front number text =
    front ++ codes "packet " ++ decimal number ++ codes ": " ++ text ++ 10 ∷ []

-- `truncation_text captured whole`: the text about a truncated packet: how many of its bytes were
-- captured, and its original length
abbrev pub truncation_text : ℕ → ℕ → List ℕ
truncation_text captured whole =
    codes "truncated to " ++ decimal captured ++ codes " of " ++ decimal whole ++ codes " bytes"

-- `truncation_line front number captured whole`: the line about the packet of this number, of whose
-- `whole` bytes only the first `captured` were captured. Nothing if it was not truncated.
abbrev pub truncation_line : List ℕ → ℕ → ℕ → ℕ → List ℕ
truncation_line front number captured whole =
    if nat_lt captured whole then packet_line front number (truncation_text captured whole) else []

-- `short_line front number`: the line about a packet that is shorter than the cooked header
abbrev pub short_line : List ℕ → ℕ → List ℕ
short_line front number = packet_line front number (codes "fewer than 16 bytes")

-- ---- failures

-- the text of a failed write or flush of standard output
abbrev pub output_error_text : WriteError → List ℕ
output_error_text Closed = write_error_text Closed
output_error_text (Os code) =
    codes "writing to standard output failed (os error " ++ decimal code ++ os_error_end code
output_error_text Other = codes "writing to standard output failed"

-- the text of an error of a run
abbrev pub list_error_text : ListError → List ℕ
list_error_text (errors.Header error) = capture_error_text error
list_error_text (errors.Packet packet error) =
    codes "packet " ++ decimal packet ++ codes ": " ++ capture_error_text error
list_error_text (errors.Write error) = output_error_text error
list_error_text errors.Memory = codes "out of memory"

-- `closing_line front error`: the line that names a failure, or nothing if the failure is a closed
-- output pipe
abbrev pub closing_line : List ℕ → ListError → List ℕ
closing_line front (errors.Write Closed) = []
closing_line front error = front ++ list_error_text error ++ 10 ∷ []

-- ---- output on a writer: `held` and `held'` are the bytes written before and after, if known

-- `ReportsText held held' failed text is_open`: if `is_open` is true, the text was written.
-- Otherwise a prefix of the text was written, and then a write failed, as `failed` states.
abbrev pub ReportsText : Option (List ℕ) → Option (List ℕ) → Type 0 → List ℕ → Bool → Type 0
ReportsText held held' failed text true = Appends held held' text
ReportsText held held' failed text false =
    (sent more : List ℕ) × (text ≡ sent ++ more) × Appends held held' sent × failed

-- a state of standard error and of the flag that is true as long as no write failed
pub record ErrorOutput : Type 1 where
  -- the bytes written, if known
  pub held : Option (List ℕ)
  -- a write failed
  pub failed : Type 0
  -- no write failed until now
  pub is_open : Bool

-- `error_output held failed is_open`: the state with these bytes written and this flag. `failed
-- error` states that a write failed with this error; the state contains that a write failed with
-- some error.
abbrev pub error_output : Option (List ℕ) → (WriteError → Type 0) → Bool → ErrorOutput
error_output held failed is_open = record {
  held = held;
  failed = (error : WriteError) × failed error;
  is_open = is_open;
}

-- `Reports before after text`: reporting this text led from the one state to the other: for all
-- bytes `start` and texts `reported`, if `reported` was reported from `start` to the first state,
-- then `reported ++ text` is from `start` to the second. So while `is_open` holds, the text is
-- written; or a prefix of it, and then a write fails, and `is_open` is cleared. After that nothing
-- is written.
abbrev pub Reports : ErrorOutput → ErrorOutput → List ℕ → Type 0
Reports before after text =
    (start : Option (List ℕ)) → (reported : List ℕ)
    → ReportsText start before.held before.failed reported before.is_open
    → ReportsText start after.held after.failed (reported ++ text) after.is_open
