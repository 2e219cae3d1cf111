-- Filters in the words of ss(8): `struct sockdiag_filter_details` and the program that is written.
use Rattle.std.specs.Prelude.{◌≡◌, ℕ, ◌⊎◌, ◌<◌, ◌≤◌, List, ◌++◌, drop, length, sum_by}
use Rattle.std.specs.Prelude.{Option, None}
use Rattle.sock_diag_filters.specs.declared.filter.Filter.{Filter}
use Rattle.sock_diag_filters.specs.declared.text.parsed.FilterTextError.{FilterTextError}
use Rattle.sock_diag_filters.specs.declared.text.parsed.FilterTextError.TheVariants as error
use Rattle.sock_diag_filters.specs.declared.text.parsed.Part.{Part}
use Rattle.sock_diag_filters.specs.Parsed.{IsFilterTextError, IsParsed}
use Rattle.sock_diag_filters.specs.Postfix.{part_size, postfix}
use Rattle.sock_diag_filters.specs.Programs.{IsProgram}
use Rattle.sock_diag_filters.specs.Words.{words_of}
use Rattle.sockdiag_c.specs.Details.{optional_number}
use Rattle.sockdiag_c.specs.declared.parsed_filters.FilterDetails.{FilterDetails}
use Rattle.sockdiag_c.specs.declared.results.TheConstants.{FILTER_INCOMPLETE, FILTER_TOO_LONG}
use Rattle.sockdiag_c.specs.declared.results.TheConstants.{FILTER_UNEXPECTED, NO_SPACE}

-- A call that parses the text of a filter.
pub record FilterCall : Type 0 where
  -- the buffer of the program before and after the call
  pub old : List ℕ
  pub new : List ℕ
  -- the struct after the call
  pub details : FilterDetails
  -- the return value
  pub returned : ℕ

-- `program_length parts`: the number of bytes of the program of the filter whose parts in postfix
-- order these are
abbrev pub program_length : List Part → ℕ
program_length parts = sum_by part_size parts

-- `IsProgramOfParts parts program`: the bytes are the program of the filter whose parts in postfix
-- order these are; without parts there are no bytes, by their number
pub record IsProgramOfParts (parts : List Part) (program : List ℕ) : Type 0 where
  pub size : length program ≡ program_length parts
  pub selects : (filter : Filter) → parts ≡ postfix filter → IsProgram filter program

-- `IsWrittenIfLongEnough parts old new returned`: if the buffer has at least as many bytes as the
-- program of these parts, the program is written at its start, the bytes after it are unchanged,
-- and the return value is 0. If it has fewer, nothing is written, and the return value is NO_SPACE.
abbrev pub IsWrittenIfLongEnough : List Part → List ℕ → List ℕ → ℕ → Type 0
IsWrittenIfLongEnough parts old new returned =
    (program_length parts ≤ length old → (returned ≡ 0) × ((program : List ℕ)
    × IsProgramOfParts parts program × (new ≡ program ++ drop (length program) old)))
    × (length old < program_length parts → (returned ≡ NO_SPACE) × (new ≡ old))

-- `filter_error_code e`: the code of the error
abbrev pub filter_error_code : FilterTextError → ℕ
filter_error_code (error.Unexpected offset) = FILTER_UNEXPECTED
filter_error_code error.Incomplete = FILTER_INCOMPLETE
filter_error_code (error.TooLong offset) = FILTER_TOO_LONG

-- `filter_error_offset len e`: the offset of the word of the error in a text of `len` bytes; `len`
-- if the text ends too early
abbrev pub filter_error_offset : ℕ → FilterTextError → ℕ
filter_error_offset len (error.Unexpected offset) = offset
filter_error_offset len error.Incomplete = len
filter_error_offset len (error.TooLong offset) = offset

-- `filter_details states parts`: the struct of the filter with these states and parts
abbrev pub filter_details : Option ℕ → List Part → FilterDetails
filter_details states parts = record {
  states = optional_number states;
  program_length = program_length parts;
  error_offset = 0;
}

-- `no_filter_details offset`: the struct of a text that is no filter, with an error at this offset
abbrev pub no_filter_details : ℕ → FilterDetails
no_filter_details offset = record {
  states = optional_number None;
  program_length = 0;
  error_offset = offset;
}

-- `IsFilterCall text call`: either the text is that of a filter, with states and parts that are
-- stored, and its program is written if the buffer is long enough. Or it is rejected with an error,
-- whose code is returned and whose offset is stored, and nothing is written.
abbrev pub IsFilterCall : List ℕ → FilterCall → Type 0
IsFilterCall text call =
    ((states : Option ℕ) × (parts : List Part) × IsParsed (words_of text) states parts
    × (call.details ≡ filter_details states parts)
    × IsWrittenIfLongEnough parts call.old call.new call.returned)
    ⊎ ((e : FilterTextError) × IsFilterTextError text e × (call.returned ≡ filter_error_code e)
    × (call.details ≡ no_filter_details (filter_error_offset (length text) e))
    × (call.new ≡ call.old))
