-- The timer of an IPv4 or IPv6 socket. Its class is the kernel's `idiag_timer`, with the names that
-- it has for TCP: 0 no timer, 1 retransmit, 2 keepalive, 3 time-wait, 4 zero-window probe.
use Rattle.std.specs.Prelude.{◌≡◌, ℕ, ◌*◌, ◌/◌, ◌%◌, ◌^◌, nat_lt, if◌then◌else◌, Option, Some, None}
use Rattle.std.specs.Duration.{as_nanos}
use Rattle.std.specs.declared.time.Duration.{Duration}
use Rattle.sock_diag_records.specs.declared.inet.response.Timer.{Timer}
use Rattle.sock_diag_records.specs.declared.inet.response.Timer.TheVariants.{Retransmit, KeepAlive}
use Rattle.sock_diag_records.specs.declared.inet.response.Timer.TheVariants.{TimeWait, Probe}

-- `u32_milliseconds time`: the whole milliseconds of the duration, modulo 2^32. This is serialized
-- as `idiag_expires`, which has 32 bits. `as_nanos` are the nanoseconds of a duration, 1,000,000
-- for a millisecond.
abbrev pub u32_milliseconds : Duration → ℕ
u32_milliseconds time = as_nanos time / 1_000_000 % 2 ^ 32

-- `timer_class byte`: the class of any byte `idiag_timer`: the byte itself if it is below 5, else
-- 0, no timer
abbrev pub timer_class : ℕ → ℕ
timer_class byte = if nat_lt byte 5 then byte else 0

-- `IsWholeU32Milliseconds time`: the duration is a whole number of milliseconds below 2^32
abbrev pub IsWholeU32Milliseconds : Duration → Type 0
IsWholeU32Milliseconds time = as_nanos time ≡ u32_milliseconds time * 1_000_000

-- `timer_data timer`: three members: the class of the timer (`.0`, `idiag_timer`), its number of
-- retransmits (`.1`, `idiag_retrans`), and its duration (`.2`, `idiag_expires`). Each that the
-- timer does not have is 0. `None` means no timer.
abbrev pub timer_data : Option Timer → ℕ × ℕ × Duration
timer_data (Some (Retransmit expires retransmits)) = (1, retransmits, expires)
timer_data (Some (KeepAlive expires)) = (2, 0, expires)
timer_data (Some TimeWait) = (3, 0, record { secs = 0; nanos = 0 })
timer_data (Some (Probe expires)) = (4, 0, expires)
timer_data None = (0, 0, record { secs = 0; nanos = 0 })

-- `class_of timer`: the class of the timer (`idiag_timer`); 0 if there is no timer
abbrev pub class_of : Option Timer → ℕ
class_of timer = (timer_data timer).0

-- `retransmits_of timer`: the number of retransmits of the timer (`idiag_retrans`); 0 if it has
-- none
abbrev pub retransmits_of : Option Timer → ℕ
retransmits_of timer = (timer_data timer).1

-- `expires_of timer`: the time until the timer expires (`idiag_expires`); 0 if it has none
abbrev pub expires_of : Option Timer → Duration
expires_of timer = (timer_data timer).2
