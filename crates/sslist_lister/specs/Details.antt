-- Details of a socket: a text for each value that the columns do not show. Texts are lists of
-- bytes: 44 is a comma and 41 a closing parenthesis.
use Rattle.std.specs.Prelude.{ℕ, ◌==◌, ◌||◌, if◌then◌else◌, List, [], ◌∷◌, ◌++◌, codes, decimal}
use Rattle.std.specs.Prelude.{Bool, true, false, length, flat_map, Result, Ok}
use Rattle.std.specs.Prelude.{Err, None, Option, Some}
use Rattle.sslist_lister.specs.Parts.{cookie_if_shown, pair_detail, timer_if_shown}
use Rattle.sslist_command_line.specs.Options.{shows_detail}
use Rattle.sslist_command_line.specs.declared.options.Detail.{Detail}
use Rattle.sslist_command_line.specs.declared.options.Detail.TheVariants.{Extended, Memory}
use Rattle.sslist_command_line.specs.declared.options.Detail.TheVariants.{Connection}
use Rattle.sslist_command_line.specs.declared.options.Options.{Options}
use Rattle.netlink_core.specs.Attribute.{Attribute, attribute_kind}
use Rattle.netlink_core.specs.declared.error.DecodeError.{DecodeError}
use Rattle.netlink_core.specs.declared.error.DecodeError.TheVariants.{BufferTooSmall, WrongLength}
use Rattle.netlink_core.specs.declared.error.DecodeError.TheVariants.{NotMultipleOfFour, NotUtf8}
use Rattle.netlink_core.specs.declared.error.DecodeError.TheVariants.{NameEmpty, NameInnerZero}
use Rattle.netlink_core.specs.declared.error.DecodeError.TheVariants.{NameWithoutEnd}
use Rattle.sock_diag_extras.specs.declared.constants.TheConstants.{INET_DIAG_ULP_INFO}
use Rattle.sock_diag_records.specs.declared.constants.TheConstants.{INET_DIAG_BBRINFO}
use Rattle.sock_diag_records.specs.declared.constants.TheConstants.{INET_DIAG_CONG}
use Rattle.sock_diag_records.specs.declared.constants.TheConstants.{INET_DIAG_DCTCPINFO}
use Rattle.sock_diag_records.specs.declared.constants.TheConstants.{INET_DIAG_INFO}
use Rattle.sock_diag_records.specs.declared.constants.TheConstants.{INET_DIAG_LOCALS}
use Rattle.sock_diag_records.specs.declared.constants.TheConstants.{INET_DIAG_MD5SIG}
use Rattle.sock_diag_records.specs.declared.constants.TheConstants.{INET_DIAG_MEMINFO}
use Rattle.sock_diag_records.specs.declared.constants.TheConstants.{INET_DIAG_PEERS}
use Rattle.sock_diag_records.specs.declared.constants.TheConstants.{INET_DIAG_SKMEMINFO}
use Rattle.sock_diag_records.specs.declared.constants.TheConstants.{INET_DIAG_VEGASINFO}
use Rattle.sslist_lister.specs.AttributeFacts.{any_facts, is_memory_kind}
use Rattle.sslist_lister.specs.Collected.{Summary}
use Rattle.sock_diag_any.specs.AnyNla.{AnyValue}
use Rattle.sock_diag_any.specs.declared.header.RawTimer.{RawTimer}
use Rattle.sock_diag_any.specs.declared.nla.Sockets.{Sockets}
use Rattle.sock_diag_any.specs.declared.nla.Sockets.TheVariants.{Inet}

-- ---- invalid values

-- the reason why a value is invalid, in one word: `refused` for the errors that are not listed here
abbrev pub error_reason : DecodeError → List ℕ
error_reason (BufferTooSmall which got need) = codes "too-short"
error_reason (WrongLength kind got need) = codes "wrong-length"
error_reason (NotMultipleOfFour got) = codes "wrong-length"
error_reason NotUtf8 = codes "not-utf8"
error_reason NameEmpty = codes "empty"
error_reason (NameInnerZero index) = codes "inner-zero"
error_reason NameWithoutEnd = codes "no-end"
error_reason _ = codes "refused"

-- `invalid_attribute_text a e`: an attribute whose value is invalid with the error `e`: its type,
-- the length of the value, and the reason. Example: ` unread:(4,3,not-utf8)`.
abbrev pub invalid_attribute_text : Attribute → DecodeError → List ℕ
invalid_attribute_text a e =
    codes " unread:(" ++ decimal (attribute_kind a) ++ 44 ∷ decimal (length a.value)
    ++ 44 ∷ error_reason e ++ 41 ∷ []

-- `unknown_attribute_text a`: an unknown attribute: its type and the length of its value. Example:
-- ` unknown:(42,8)`.
abbrev pub unknown_attribute_text : Attribute → List ℕ
unknown_attribute_text a = pair_detail (codes "unknown") (attribute_kind a) (length a.value)

-- ---- attributes

-- `status_text a status`: the text of an unknown or invalid attribute, by its status
-- (`value_status`); nothing for a valid one, of which the facts are shown
abbrev pub status_text : Attribute → Result Bool DecodeError → List ℕ
status_text a (Ok true) = []
status_text a (Ok false) = unknown_attribute_text a
status_text a (Err e) = invalid_attribute_text a e

-- `detail_group sockets kind`: the group of details of an attribute of this type, in a reply about
-- these sockets: Memory for the option `-m`, Connection for `-i`, Extended for `-e`
abbrev pub detail_group : Sockets → ℕ → Detail
detail_group (Inet format) kind =
    if (kind == INET_DIAG_MEMINFO) || (kind == INET_DIAG_SKMEMINFO) then Memory
    else if (kind == INET_DIAG_INFO) || (kind == INET_DIAG_VEGASINFO) || (kind == INET_DIAG_CONG)
    || (kind == INET_DIAG_DCTCPINFO) || (kind == INET_DIAG_BBRINFO) || (kind == INET_DIAG_MD5SIG)
    || (kind == INET_DIAG_ULP_INFO) || (kind == INET_DIAG_LOCALS) || (kind == INET_DIAG_PEERS)
    then Connection else Extended
detail_group other kind = if is_memory_kind other kind then Memory else Extended

-- `valid_detail o sockets first`: the text of the facts of the first valid attribute of a kind:
-- `first` is the kind (`.0`) and what it says (`.1`). Nothing if there is none (None), or if the
-- options do not select its group of details.
abbrev pub valid_detail : Options → Sockets → Option (ℕ × AnyValue) → List ℕ
valid_detail o sockets None = []
valid_detail o sockets (Some valid) =
    if shows_detail o (detail_group sockets valid.0)
    then (any_facts o.utf8 sockets valid.1).text else []

-- `other_detail o sockets other`: the text of an unknown or invalid attribute (`other.0`) with its
-- status (`other.1`). Nothing if the options do not select its group of details.
abbrev pub other_detail : Options → Sockets → Attribute × Result Bool DecodeError → List ℕ
other_detail o sockets other =
    if shows_detail o (detail_group sockets (attribute_kind other.0))
    then status_text other.0 other.1 else []

-- `details o timer cookie s`: the details of a socket, as far as the options select them. They are
-- the timer, the cookie (eight bytes), the facts of the first valid attribute of each kind in the
-- order of the kinds, and the unknown and the invalid attributes in the order of the bytes.
abbrev pub details : Options → RawTimer → List ℕ → Summary → List ℕ
details o timer cookie s =
    timer_if_shown o s.sockets timer ++ cookie_if_shown o cookie
    ++ (flat_map (valid_detail o s.sockets) s.first ++ flat_map (other_detail o s.sockets) s.others)
