-- Texts of failed reads and writes, and what a step that writes a text has written.
use Rattle.std.specs.Prelude.{◌≡◌, ◌≢◌, ◌↔◌, ◌⊎◌, ℕ, ℤ, pos, negsuc, List, [], ◌++◌, Option}
use Rattle.std.specs.Prelude.{Some, None, codes, decimal, ◌==◌, if◌then◌else◌}
use Rattle.std.specs.Io.KnownBytes.{Appends}
use Rattle.program_streams.specs.declared.streams.TheConstants as c
use Rattle.program_streams.specs.declared.streams.ReadError.{ReadError}
use Rattle.program_streams.specs.declared.streams.ReadError.TheVariants.{Directory}
use Rattle.program_streams.specs.declared.streams.ReadError.TheVariants.{Os as OsRead}
use Rattle.program_streams.specs.declared.streams.ReadError.TheVariants.{Other as OtherRead}
use Rattle.program_streams.specs.declared.streams.WriteError.{WriteError}
use Rattle.program_streams.specs.declared.streams.WriteError.TheVariants.{Closed}
use Rattle.program_streams.specs.declared.streams.WriteError.TheVariants.{Os as OsWrite}
use Rattle.program_streams.specs.declared.streams.WriteError.TheVariants.{Other as OtherWrite}

-- `os_error_end code`: the end of the text of a failed read or write, which follows its number of
-- errno(3), `code`. For five numbers, those that reads and writes have most often, it is a colon,
-- the meaning of the number, and the closing parenthesis. For others it is only the parenthesis.
abbrev pub os_error_end : ℕ → List ℕ
os_error_end code =
    if code == c.EIO then codes ": input/output error)"
    else if code == c.EBADF then codes ": bad file descriptor)"
    else if code == c.EFBIG then codes ": file too large)"
    else if code == c.ENOSPC then codes ": no space left on device)"
    else if code == c.EDQUOT then codes ": disk quota exceeded)"
    else codes ")"

-- `read_error_text error`: the text of the error of a failed read
abbrev pub read_error_text : ReadError → List ℕ
read_error_text Directory = codes "the input is a directory; name the captures in it"
read_error_text (OsRead code) =
    codes "reading failed (os error " ++ decimal code ++ os_error_end code
read_error_text OtherRead = codes "reading failed"

-- `error_number code`: the errno(3) of an error, from the signed number that the system returned,
-- if it returned one; `None` if there is none, or if it is negative. (`pos n` is n, `negsuc n` is
-- -n - 1.)
abbrev pub error_number : Option ℤ → Option ℕ
error_number (Some (pos code)) = Some code
error_number (Some (negsuc n)) = None
error_number None = None

-- `numbered_read_error code`: the error of a failed read that has this errno(3), or none
abbrev pub numbered_read_error : Option ℕ → ReadError
numbered_read_error (Some code) = OsRead code
numbered_read_error None = OtherRead

-- `numbered_write_error code`: the error of a failed write or flush that has this errno(3), or none
abbrev pub numbered_write_error : Option ℕ → WriteError
numbered_write_error (Some code) = OsWrite code
numbered_write_error None = OtherWrite

-- `IsReadErrorFor is_directory number e`: `e` is the error of a failed read: Directory if and only
-- if the input is a directory, or else the error with the system's number
abbrev pub IsReadErrorFor : Type 0 → Option ℤ → ReadError → Type 0
IsReadErrorFor is_directory number e =
    ((e ≡ Directory) ↔ is_directory)
    × (e ≢ Directory → e ≡ numbered_read_error (error_number number))

-- `IsWriteErrorFor is_broken_pipe number e`: `e` is the error of a failed write or flush: Closed if
-- and only if the output is a pipe without a reader, or else the error with the system's number
abbrev pub IsWriteErrorFor : Type 0 → Option ℤ → WriteError → Type 0
IsWriteErrorFor is_broken_pipe number e =
    ((e ≡ Closed) ↔ is_broken_pipe)
    × (e ≢ Closed → e ≡ numbered_write_error (error_number number))

-- `write_error_text error`: the text of the error of a failed write or flush
abbrev pub write_error_text : WriteError → List ℕ
write_error_text Closed = codes "the output pipe is closed"
write_error_text (OsWrite code) =
    codes "writing failed (os error " ++ decimal code ++ os_error_end code
write_error_text OtherWrite = codes "writing failed"

-- `WritesAllOrFails held held' failed text`: the text was written; or a prefix of it (`sent`) was
-- written, and `failed` holds, which says that a write failed. `held` and `held'` are the bytes
-- that had been written before and after. If `held` is `None`, they are not known, and nothing is
-- said of them.
abbrev pub WritesAllOrFails : Option (List ℕ) → Option (List ℕ) → Type 0 → List ℕ → Type 0
WritesAllOrFails held held' failed text = (sent unsent : List ℕ) × (text ≡ sent ++ unsent)
    × Appends held held' sent × ((unsent ≡ []) ⊎ failed)
