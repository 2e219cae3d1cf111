-- Details of a line. Texts are lists of ASCII codes: 32 is a space, 44 a comma, 41 a closing
-- parenthesis.
use Rattle.std.specs.Prelude.{ℕ, ◌==◌, if◌then◌else◌, List, [], ◌∷◌, ◌++◌, false, codes, decimal}
use Rattle.std.specs.Fmt.{digits}
use Rattle.byteorder.specs.Endian.{little_number}
use Rattle.sock_diag_any.specs.declared.header.RawTimer.{RawTimer}
use Rattle.sock_diag_any.specs.declared.nla.InfoFormat.TheVariants.{Sctp}
use Rattle.sock_diag_any.specs.declared.nla.Sockets.{Sockets}
use Rattle.sock_diag_any.specs.declared.nla.Sockets.TheVariants.{Inet}
use Rattle.sslist_command_line.specs.Options.{shows_detail}
use Rattle.sslist_command_line.specs.declared.options.Detail.TheVariants.{Timer, Extended}
use Rattle.sslist_command_line.specs.declared.options.Options.{Options}

-- `hex_detail name number`: a space, the name, a colon, `0x` and a number in hexadecimal digits
-- (`digits 16 false`: in lowercase, without leading zeros)
abbrev pub hex_detail : List ℕ → ℕ → List ℕ
hex_detail name number = 32 ∷ name ++ codes ":0x" ++ digits 16 false number

-- `pair_detail name first second`: a space, the name, a colon and two numbers in parentheses,
-- separated by a comma
abbrev pub pair_detail : List ℕ → ℕ → ℕ → List ℕ
pair_detail name first second =
    32 ∷ name ++ codes ":(" ++ decimal first ++ 44 ∷ decimal second ++ 41 ∷ []

-- `timer_name sockets kind`: the name of a kind of timer (`idiag_timer`, sock_diag(7)) in a reply
-- about these sockets, as ss(8) prints 1 to 4. 5 is the timer of a delayed acknowledgement
-- (IDIAG_TIMER_DELACK) of Linux 7.2 and later. SCTP has one timer, that of a retransmission.
abbrev pub timer_name : Sockets → ℕ → List ℕ
timer_name (Inet Sctp) kind = codes "T3_RTX"
timer_name other kind =
    if kind == 1 then codes "on" else if kind == 2 then codes "keepalive"
    else if kind == 3 then codes "timewait" else if kind == 4 then codes "persist"
    else if kind == 5 then codes "delack" else codes "unknown"

-- `timer_text sockets timer`: the timer in a reply about these sockets: its kind, the time until it
-- expires, in milliseconds, and the number of retransmits. Nothing if no timer runs. Example:
-- ` timer:(on,200ms,3)`. 44 is the first comma, 41 the closing parenthesis.
abbrev pub timer_text : Sockets → RawTimer → List ℕ
timer_text sockets timer =
    if timer.kind == 0 then []
    else codes " timer:(" ++ timer_name sockets timer.kind ++ 44 ∷ decimal timer.expires
    ++ codes "ms," ++ decimal timer.retransmits ++ 41 ∷ []

-- the timer of a socket that has none
abbrev pub no_timer : RawTimer
no_timer = record { kind = 0; retransmits = 0; expires = 0 }

-- `timer_if_shown options sockets timer`: the timer in a reply about these sockets, if its group of
-- details is shown, or else nothing
abbrev pub timer_if_shown : Options → Sockets → RawTimer → List ℕ
timer_if_shown options sockets timer =
    if shows_detail options Timer then timer_text sockets timer else []

-- `cookie_if_shown options cookie`: ` sk:` and the cookie as a little-endian number of eight bytes,
-- in hexadecimal digits, lowercase (`false`), if the group of details of `-e` is shown, or else
-- nothing
abbrev pub cookie_if_shown : Options → List ℕ → List ℕ
cookie_if_shown options cookie =
    if shows_detail options Extended
    then codes " sk:" ++ digits 16 false (little_number 8 cookie) else []

-- what separates the columns from the details: nothing with `-O`, or else a line feed (10) and a
-- tab (9)
abbrev pub separator : Options → List ℕ
separator options = if options.one_line then [] else 10 ∷ 9 ∷ []

-- `details_after_separator options details`: the separator and the details, or nothing if there are
-- no details
abbrev pub details_after_separator : Options → List ℕ → List ℕ
details_after_separator options [] = []
details_after_separator options (first ∷ later) = separator options ++ first ∷ later
