-- Dates and times from 1970 on.
use Rattle.std.proofs.Common.{arith, rules, ◌≡◌, ℕ, zero, suc, ◌+◌, ◌^◌, ◌/◌, ◌%◌, ◌<◌, ◌≤◌, inl}
use Rattle.std.proofs.Common.{inr, refl, ◌∙◌, ℤ, pos, List}
use Rattle.std.proofs.lemmas.Bool.{cases_lt, lt-ltb, le-ltb}
use Rattle.jiff.proofs.SpanFacts.{signed_arith}
use Rattle.jiff.proofs.Family.{civil_nanos-parts, days_from_civil-day, days_from_civil-max}
use Rattle.jiff.proofs.Family.{days_from_civil-next_month, days_from_civil-next_year}
use Rattle.jiff.proofs.Family.{epoch_day_injective, time_nanos_bound}
use Rattle.jiff_core.specs.Calendar.{days_from_civil, days_in_month, IsCivilDate}
use Rattle.jiff_core.specs.Date.{epoch_day}
use Rattle.jiff_core.specs.Time.{time_nanos}
use Rattle.jiff_core.specs.declared.civil.date.Date.{Date}
use Rattle.jiff_core.specs.declared.civil.datetime.DateTime.{DateTime}
use Rattle.jiff_core.proofs.CalendarLemmas.{day_count-epoch, days_from_civil-day_count}
use Rattle.jiff_core.proofs.CalendarLemmas.{days_in_month_bounds}
use Rattle.sslist_texts.specs.Times.{day_after, date_after_days, utc_text, IsUtcText}
use Rattle.jiff.specs.Words.{civil_nanos}

-- `d` is a date of the calendar, `n` days after 1 January 1970.
abbrev pub IsDayNumber : ℕ → ℕ × ℕ × ℕ → Type 0
IsDayNumber n d =
    IsCivilDate (pos d.0) d.1 d.2 × (days_from_civil (pos d.0) d.1 d.2 ≡ pos n)

-- If the month has another day, it is the day after.
next_day : (y m d n : ℕ) → IsDayNumber n (y, m, d) → d < days_in_month (pos y) m
    → IsDayNumber (suc n) (y, m, d + 1)
next_day y m d n held less =
    let next = days_from_civil-day (pos y) m d (d + 1) held.0.2.0 (omega arith) in
    ((held.0.0, held.0.1, (omega arith, omega arith)), omega (arith, signed_arith, held.1, next))

-- The first of the next month follows the last day of a month before December.
next_month : (y m d n : ℕ) → IsDayNumber n (y, m, d) → days_in_month (pos y) m ≤ d → m < 12
    → IsDayNumber (suc n) (y, m + 1, 1)
next_month y m d n held last less =
    let bounds = days_in_month_bounds (pos y) (m + 1) in
    let is : d ≡ days_in_month (pos y) m = omega (arith, held.0.2) in
    let next = days_from_civil-next_month (pos y) m d held.0.1.0 is in (
      (held.0.0, (omega arith, omega arith), (omega arith, omega (arith, bounds))),
      omega (arith, signed_arith, held.1, next),
    )

-- The first of January follows the 31st of December.
next_year : (y d n : ℕ) → IsDayNumber n (y, 12, d) → 31 ≤ d → n < 2932896
    → IsDayNumber (suc n) (y + 1, 1, 1)
next_year y d n held last low =
    let is : d ≡ 31 = omega (arith, held.0.2) in
    let number : days_from_civil (pos y) 12 31 ≡ pos n = rw (← is) held.1 in
    let other : (y ≡ 9999 → ⊥) =
    λ e. omega (arith, signed_arith, rw e at number, days_from_civil-max) in
    let next =
    days_from_civil-next_year (pos y) (pos (y + 1)) (omega (arith, signed_arith))
    (omega (arith, signed_arith)) in (
      (
        (omega (arith, signed_arith), omega (arith, signed_arith, held.0.0)),
        (omega arith, omega arith),
        (omega arith, omega arith),
      ),
      omega (arith, signed_arith, number, next),
    )

-- The day after a date has the next day number.
after : (y m d n : ℕ) → IsDayNumber n (y, m, d) → n < 2932896
    → IsDayNumber (suc n) (day_after (y, m, d))
after y m d n held low = elim (cases_lt d (days_in_month (pos y) m)) [
  | inl less ↦ rw (lt-ltb _ _ less) (next_day y m d n held less)
  | inr last ↦ elim (cases_lt m 12) [
    | inl less ↦ rw (le-ltb _ _ last, lt-ltb _ _ less) (next_month y m d n held last less)
    | inr twelve ↦
        let is : m ≡ 12 = omega (arith, held.0.1) in
        rw (le-ltb _ _ last, le-ltb _ _ twelve)
        (next_year y d n (rw is at held) (rw is at last) low)
  ]
]

-- The date `n` days after 1 January 1970 has the day number `n`.
pub day_number : (n : ℕ) → n ≤ 2932896 → IsDayNumber n (date_after_days n)
unfolding date_after_days
day_number zero low = (
  (search rules, search rules, search rules),
  omega (arith, signed_arith, days_from_civil-day_count (pos 1970) 1 1, day_count-epoch),
)
day_number (suc n) low =
    after _ _ _ n (day_number n (omega arith)) (omega arith)

-- The day number of the date that is `n` nanoseconds after the start of 1970.
same_day : (dt : DateTime) (n : ℕ) (day : ℤ) → civil_nanos dt ≡ pos n
    → day ≡ pos (n / 86400000000000) → epoch_day dt.date ≡ day
same_day dt n day when is =
    omega (arith, signed_arith, civil_nanos-parts dt, time_nanos_bound dt.time)

-- The nanoseconds since midnight.
since_midnight : (dt : DateTime) (n : ℕ) → civil_nanos dt ≡ pos n
    → time_nanos dt.time ≡ n % 86400000000000
since_midnight dt n when =
    omega (arith, signed_arith, civil_nanos-parts dt, time_nanos_bound dt.time)

-- The hour, minute, second and fraction of a second of a time.
same_time : (dt : DateTime) (n : ℕ) → civil_nanos dt ≡ pos n
    → (dt.time.hour ≡ n / 1000000000 % 86400 / 3600)
    × (dt.time.minute ≡ n / 1000000000 % 86400 / 60 % 60)
    × (dt.time.second ≡ n / 1000000000 % 86400 % 60)
    × (dt.time.subsec_nanosecond ≡ n % 1000000000)
same_time dt n when =
    let is = since_midnight dt n when in
    (omega (arith, is), omega (arith, is), omega (arith, is), omega (arith, is))

-- The text that jiff defines for a time up to 2^64 nanoseconds after the start of 1970 is its
-- `utc_text`.
pub utc_text_is : (n : ℕ) (text : List ℕ) → IsUtcText n text → n < 2 ^ 64 → text ≡ utc_text n
unfolding utc_text
utc_text_is n text h low =
    let dt = h.0 in
    let day = day_number (n / 86400000000000) (omega arith) in
    let d = date_after_days (n / 86400000000000) in
    let e : Date = record {
      year = pos d.0;
      month = d.1;
      day = d.2;
      year_in = day.0.0;
      month_in = day.0.1;
      day_in = day.0.2;
    } in
    let same = epoch_day_injective dt.date e (same_day dt n _ h.1 day.1) in
    let t = same_time dt n h.1 in
    h.2 ∙ rw (same.0, same.1, same.2, t.0, t.1, t.2, t.3) refl
