-- Time of the capture of a packet, as ISO 8601.
use Rattle.std.specs.Prelude.{◌≡◌, ℕ, zero, suc, ◌+◌, ◌*◌, ◌/◌, ◌%◌, nat_lt, if◌then◌else◌, pos}
use Rattle.std.specs.Prelude.{false, List, [], ◌∷◌, ◌++◌, Some}
use Rattle.jiff.specs.Words.{civil_nanos, days_in_month}
use Rattle.jiff_core.specs.declared.civil.datetime.DateTime.{DateTime}
use Rattle.jiff_fmt.specs.Text.{datetime_text, pad2, pad4, places, zulu_text}
use Rattle.netlink_captures.specs.declared.captures.PacketHeader.{PacketHeader}
use Rattle.netlink_captures.specs.declared.captures.TimeUnit.{TimeUnit}
use Rattle.netlink_captures.specs.declared.captures.TimeUnit.TheVariants.{Microseconds, Nanoseconds}

-- `fraction_in_nanoseconds unit fraction`: a fraction of a second in this unit, in nanoseconds
abbrev pub fraction_in_nanoseconds : TimeUnit → ℕ → ℕ
fraction_in_nanoseconds Microseconds fraction = fraction * 1000
fraction_in_nanoseconds Nanoseconds fraction = fraction

-- the time in nanoseconds since the start of 1970, UTC
abbrev pub nanoseconds : PacketHeader → ℕ
nanoseconds header =
    header.seconds * 1000000000 + fraction_in_nanoseconds header.unit header.fraction

-- the day after a date of the Gregorian calendar: a year, a month from 1 to 12, and a day from 1
abbrev pub day_after : ℕ × ℕ × ℕ → ℕ × ℕ × ℕ
day_after (year, month, day) =
    if nat_lt day (days_in_month (pos year) month) then (year, month, day + 1)
    else (if nat_lt month 12 then (year, month + 1, 1) else (year + 1, 1, 1))

-- the date this number of days after 1 January 1970
unfoldable pub date_after_days : ℕ → ℕ × ℕ × ℕ
date_after_days zero = (1970, 1, 1)
date_after_days (suc days) = day_after (date_after_days days)

-- a date as `2026-11-27`: four digits, `-` (45), two digits, `-` and two digits
abbrev pub date_text : ℕ × ℕ × ℕ → List ℕ
date_text (year, month, day) = pad4 year ++ 45 ∷ [] ++ pad2 month ++ 45 ∷ [] ++ pad2 day

-- `clock_text seconds fraction`: a time of day as `05:13:59.123456000`, from the seconds since
-- midnight and a fraction of a second in nanoseconds. A colon is 58, and a point is 46.
abbrev pub clock_text : ℕ → ℕ → List ℕ
clock_text seconds fraction =
    pad2 (seconds / 3600) ++ 58 ∷ pad2 (seconds / 60 % 60) ++ 58 ∷ pad2 (seconds % 60)
    ++ 46 ∷ places 9 1000000000 fraction

-- The text of the time that is `n` nanoseconds after the start of 1970: the date, `T` (84), the
-- time of day, and `Z` (90). A day has 86400 seconds, so 86400000000000 nanoseconds.
unfoldable pub utc_text : ℕ → List ℕ
utc_text n =
    (date_text (date_after_days (n / 86400000000000))
    ++ 84 ∷ clock_text (n / 1000000000 % 86400) (n % 1000000000))
    ++ 90 ∷ []

-- `IsUtcText n text`: jiff's text of an instant. There is a date and time of jiff's calendar, `dt`,
-- that is `n` nanoseconds after the start of 1970, and the text is jiff's text of it, with `T` (84)
-- and nine digits of the fraction, and `Z`. `false`: the letters are not in lowercase.
abbrev pub IsUtcText : ℕ → List ℕ → Type 0
IsUtcText n text =
    (dt : DateTime) × (civil_nanos dt ≡ pos n)
    × (text ≡ datetime_text false 84 (Some 9) dt ++ zulu_text false)

-- the time of the capture of a packet
abbrev pub time_text : PacketHeader → List ℕ
time_text header = utc_text (nanoseconds header)
