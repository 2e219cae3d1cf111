-- The request of a command line. Arguments are lists of bytes.
use Rattle.std.specs.Prelude.{◌≡◌, ◌≢◌, ℕ, ◌+◌, ◌-◌, ◌||◌, ◌==◌, if◌then◌else◌, not, Bool, true}
use Rattle.std.specs.Prelude.{false, List, [], ◌∷◌, Option, Some, None, bytes_eq, codes, drop, find}
use Rattle.std.specs.Prelude.{fold, is_some, length, nat_eq, nat_lt, option_map, slice_index, take}
use Rattle.std.specs.Prelude.{unwrap_or}
use Rattle.std.specs.List.{ends_with, list_any, starts_with}
use Rattle.std.specs.Option.{option_map_or}
use Rattle.sock_diag_filters.specs.Numbers.{index_of}
use Rattle.sock_diag_filters.specs.Rows.{value_of}
use Rattle.sslist_command_line.specs.declared.arguments.Argument.{Argument}
use Rattle.sslist_command_line.specs.declared.arguments.Argument.TheVariants as parsed_as
use Rattle.sslist_command_line.specs.declared.arguments.Place.{Place}
use Rattle.sslist_command_line.specs.declared.arguments.Place.TheVariants as places
use Rattle.sslist_command_line.specs.declared.arguments.TheConstants.{FAMILIES, FAMILY}
use Rattle.sslist_command_line.specs.declared.arguments.TheConstants.{FLAGS, LETTERS}
use Rattle.sslist_command_line.specs.declared.choice.Choice.{Choice}
use Rattle.sslist_command_line.specs.declared.choice.Choice.TheVariants as choices
use Rattle.sslist_command_line.specs.declared.choice.Rejection.{Rejection}
use Rattle.sslist_command_line.specs.declared.choice.Rejection.TheVariants as rejections
use Rattle.sslist_command_line.specs.declared.options.AnyFamily.{AnyFamily}
use Rattle.sslist_command_line.specs.declared.options.AnyFamily.TheVariants.{Inet, Inet6}
use Rattle.sslist_command_line.specs.declared.options.AnyFamily.TheVariants.{Netlink, Packet}
use Rattle.sslist_command_line.specs.declared.options.AnyFamily.TheVariants.{Unix, Vsock}
use Rattle.sslist_command_line.specs.declared.options.AnyFamily.TheVariants.{Xdp}
use Rattle.sslist_command_line.specs.declared.options.Options.{Options}

-- ---- letters

-- the byte of a text of one letter
abbrev pub letter_of : List ℕ → ℕ
letter_of text = slice_index text 0

-- `contains_letter letter letters`: the letter is one of the letters
abbrev pub contains_letter : ℕ → List ℕ → Bool
contains_letter letter letters = list_any (λ other. other == letter) letters

-- `has_letter text letters`: the letter in the text, which is a text of one letter, is one of the
-- letters
abbrev pub has_letter : List ℕ → List ℕ → Bool
has_letter text letters = contains_letter (letter_of text) letters

-- the last letter is f
abbrev pub ends_in_f : List ℕ → Bool
ends_in_f letters = ends_with nat_eq letters (codes "f")

-- the letters without an f at their end
abbrev pub without_last_f : List ℕ → List ℕ
without_last_f letters = if ends_in_f letters then take (length letters - 1) letters else letters

-- the first of the letters that is not one of `LETTERS`; None if there is none
abbrev pub first_unknown_letter : List ℕ → Option ℕ
first_unknown_letter letters =
    find (λ letter. not (contains_letter letter LETTERS.now)) letters

-- The first letter because of which the letters are rejected: one that is not one of `LETTERS`.
-- The last letter may also be f, which needs the name of a family as the next argument. None if
-- there is no such letter.
abbrev pub first_rejected_letter : List ℕ → Option ℕ
first_rejected_letter letters = first_unknown_letter (without_last_f letters)

-- `with_details letters options`: `options`, and the options of those of the letters that select
-- details or the format
abbrev pub with_details : List ℕ → Options → Options
with_details letters options = record options {
  timer = options.timer || has_letter (codes "o") letters;
  extended = options.extended || has_letter (codes "e") letters;
  memory = options.memory || has_letter (codes "m") letters;
  connection = options.connection || has_letter (codes "i") letters;
  one_line = options.one_line || has_letter (codes "O") letters;
  no_heading = options.no_heading || has_letter (codes "H") letters;
}

-- `listening_after before letters`: whether only listening sockets are listed. The last letter that
-- is l or a decides: l for yes, a for no. If there is no such letter, it is as before the letters
-- (`before`).
abbrev pub listening_after : Bool → List ℕ → Bool
listening_after before letters = fold
    (λ listening letter. if letter == letter_of (codes "l") then true
    else if letter == letter_of (codes "a") then false else listening)
    before letters

-- `with_sockets letters options`: `options`, and the options of those of the letters that select
-- sockets
abbrev pub with_sockets : List ℕ → Options → Options
with_sockets letters options = record options {
  tcp = options.tcp || has_letter (codes "t") letters;
  udp = options.udp || has_letter (codes "u") letters;
  mptcp = options.mptcp || has_letter (codes "M") letters;
  unix = options.unix || has_letter (codes "x") letters;
  packet = options.packet || has_letter (codes "0") letters;
  inet = options.inet || has_letter (codes "4") letters;
  inet6 = options.inet6 || has_letter (codes "6") letters;
  listening = listening_after options.listening letters;
}

-- `with_letters letters options`: `options`, and the options of all of the letters; the letter n
-- changes nothing
abbrev pub with_letters : List ℕ → Options → Options
with_letters letters options = with_sockets letters (with_details letters options)

-- ---- options by their names

-- what an option without a value that is a whole argument is parsed as; None for any other argument
unfoldable pub flag_argument : List ℕ → Option Argument
flag_argument argument = value_of FLAGS argument

-- ---- families

-- the family of this name; None if there is none
unfoldable pub family_named : List ℕ → Option AnyFamily
family_named name = value_of FAMILIES name

-- `with_family family options`: `options`, and the option that selects sockets of the family
abbrev pub with_family : AnyFamily → Options → Options
with_family Inet options = record options { inet = true }
with_family Inet6 options = record options { inet6 = true }
with_family Unix options = record options { unix = true }
with_family Netlink options = record options { netlink = true }
with_family Packet options = record options { packet = true }
with_family Vsock options = record options { vsock = true }
with_family Xdp options = record options { xdp = true }

-- ---- arguments

-- An argument that may be an option is the name of a file if it does not begin with a hyphen, or if
-- it is only a hyphen, which is standard input. The empty argument is one too.
abbrev pub is_file : List ℕ → Bool
is_file argument = nat_lt (length argument) 2 || not (starts_with nat_eq argument (codes "-"))

-- `family_argument rejection name`: what the name of a family is parsed as: the selection of its
-- sockets. Any other text is rejected, for the reason `rejection`. `option_map_or f option
-- default`: `f v` if the option is `Some v`, and else `default`.
abbrev pub family_argument : Rejection → List ℕ → Argument
family_argument rejection name =
    option_map_or parsed_as.Sockets (family_named name) (parsed_as.Rejected rejection)

-- `letter_rejection letter`: the reason why letters are rejected, of which `first_rejected_letter`
-- finds this one. f, h and V are options too, but f only as the last letter, and h and V only
-- alone.
abbrev pub letter_rejection : ℕ → Rejection
letter_rejection letter =
    if contains_letter letter (codes "fhV") then rejections.MisplacedLetter letter
    else rejections.UnknownLetter letter

-- What letters after a hyphen are parsed as: they are rejected if one of them is
-- (`first_rejected_letter`). Else they are `Letters`, with whether they end in f. The empty
-- argument is rejected too; it is never parsed here, because it is the name of a file.
abbrev pub letters_argument : List ℕ → Argument
letters_argument argument =
    if length argument == 0 then parsed_as.Rejected rejections.UnknownOption
    else option_map_or (λ letter. parsed_as.Rejected (letter_rejection letter))
    (first_rejected_letter (drop 1 argument)) (parsed_as.Letters (ends_in_f argument))

-- `named_value name value`: what the name of an option and its value are parsed as: rejected if
-- there is no such option, if it takes no value, or if the value is not the name of a family
abbrev pub named_value : List ℕ → List ℕ → Argument
named_value name value =
    if bytes_eq name FAMILY.now then family_argument rejections.UnknownFamilyValue value
    else parsed_as.Rejected (if is_some (flag_argument name) then rejections.UnexpectedValue
    else rejections.UnknownOption)

-- what an argument is parsed as that begins with two hyphens and is not in `FLAGS`: the name of an
-- option, an equals sign (61) and its value; any other one is rejected
abbrev pub long_argument : List ℕ → Argument
long_argument argument =
    option_map_or (λ index. named_value (take index argument) (drop (index + 1) argument))
    (index_of 61 argument)
    (parsed_as.Rejected (if bytes_eq argument FAMILY.now then rejections.MissingValue
    else rejections.UnknownOption))

-- what an option is parsed as
abbrev pub option_argument : List ℕ → Argument
option_argument argument =
    if bytes_eq argument (codes "--") then parsed_as.EndOfOptions
    else unwrap_or (flag_argument argument)
    (if starts_with nat_eq argument (codes "--") then long_argument argument
    else letters_argument argument)

-- `argument_at place argument`: what an argument is parsed as at its place: as an option or a file,
-- as the name of a family, or as a word of the filter.
abbrev pub argument_at : Place → List ℕ → Argument
argument_at places.Any argument =
    if is_file argument then parsed_as.File else option_argument argument
argument_at places.Family argument = family_argument rejections.UnknownFamily argument
argument_at places.Word argument = parsed_as.Word

-- `next_place place parsed`: the place of the argument after one at `place` that is parsed as
-- `parsed`: the name of a family after letters that end in f, a word of the filter after `--` and
-- from then on.
abbrev pub next_place : Place → Argument → Place
next_place places.Word parsed = places.Word
next_place place parsed_as.EndOfOptions = places.Word
next_place place (parsed_as.Letters true) = places.Family
next_place place parsed = places.Any

-- an argument: its bytes, and what they are parsed as
pub record ParsedArgument : Type 0 where
  pub parsed : Argument
  pub bytes : List ℕ

-- `parsed_arguments place arguments`: each of these arguments, with what it is parsed as. The first
-- one is at this place.
abbrev pub parsed_arguments : Place → List (List ℕ) → List ParsedArgument
parsed_arguments place [] = []
parsed_arguments place (argument ∷ later) =
    record { parsed = argument_at place argument; bytes = argument }
    ∷ parsed_arguments (next_place place (argument_at place argument)) later

-- `last_place place arguments`: the place after all these arguments, the first of which is at
-- `place`
abbrev pub last_place : Place → List (List ℕ) → Place
last_place place arguments =
    fold (λ here argument. next_place here (argument_at here argument)) place arguments

-- the argument by itself decides what the program does
abbrev pub decides : Argument → Bool
decides parsed_as.Help = true
decides parsed_as.Version = true
decides (parsed_as.Rejected reason) = true
decides parsed = false

-- the argument is the name of a file
abbrev pub names_file : Argument → Bool
names_file parsed_as.File = true
names_file parsed = false

-- the argument is a word of the filter
abbrev pub is_word : Argument → Bool
is_word parsed_as.Word = true
is_word parsed = false

-- ---- the command line

-- `with_argument options parsed argument`: `options`, and the options of the argument, which is
-- parsed as `parsed`. Letters follow a hyphen, so that an argument of letters is not empty. A long
-- name means what its letter means.
abbrev pub with_argument : Options → Argument → List ℕ → Options
with_argument options parsed_as.Utf8 argument = record options { utf8 = true }
with_argument options parsed_as.Requests argument = record options { requests = true }
with_argument options parsed_as.Json argument = record options { json = true }
with_argument options (parsed_as.Sockets family) argument = with_family family options
with_argument options (parsed_as.Letters needs_family) argument =
    if length argument == 0 then options else with_letters (drop 1 argument) options
with_argument options (parsed_as.Letter letter) argument = with_letters (letter ∷ []) options
with_argument options parsed argument = options

-- the options of a command line without options: none is set
abbrev pub no_options : Options
no_options = record {
  timer = false;
  extended = false;
  memory = false;
  connection = false;
  one_line = false;
  tcp = false;
  udp = false;
  mptcp = false;
  unix = false;
  netlink = false;
  packet = false;
  vsock = false;
  xdp = false;
  inet = false;
  inet6 = false;
  listening = false;
  no_heading = false;
  utf8 = false;
  requests = false;
  json = false;
  filter = None;
}

-- `options_after options place arguments`: these options, and those of all these arguments, the
-- first of which is at this place
abbrev pub options_after : Options → Place → List (List ℕ) → Options
options_after options place arguments =
    fold (λ before argument. with_argument before argument.parsed argument.bytes) options
    (parsed_arguments place arguments)

-- `first_deciding_argument place arguments`: the first of these arguments that alone decides what
-- the program does; None if none does. The first argument is at this place.
abbrev pub first_deciding_argument : Place → List (List ℕ) → Option ParsedArgument
first_deciding_argument place arguments =
    find (λ argument. decides argument.parsed) (parsed_arguments place arguments)

-- what the first argument that decides is parsed as
abbrev pub decision_of : List (List ℕ) → Option Argument
decision_of arguments =
    option_map (λ argument. argument.parsed) (first_deciding_argument places.Any arguments)

-- `IsChoice arguments choice`: the arguments after the program's name request `choice`. If an
-- argument decides, the first one that does is the request: `--help` or `-h`, `--version` or `-V`,
-- or an argument that is rejected, with the reason. Else the name of a family is missing if the
-- last argument is letters that end in f. Else captures are listed with the options of all
-- arguments.
abbrev pub IsChoice : List (List ℕ) → Choice → Type 0
IsChoice arguments choices.Help = decision_of arguments ≡ Some parsed_as.Help
IsChoice arguments choices.Version = decision_of arguments ≡ Some parsed_as.Version
IsChoice arguments (choices.Reject reason argument) =
    first_deciding_argument places.Any arguments
    ≡ Some (record { parsed = parsed_as.Rejected reason; bytes = argument.now })
IsChoice arguments choices.MissingFamily =
    (first_deciding_argument places.Any arguments ≡ None)
    × (last_place places.Any arguments ≡ places.Family)
IsChoice arguments (choices.Captures options) =
    (first_deciding_argument places.Any arguments ≡ None)
    × (last_place places.Any arguments ≢ places.Family)
    × (options ≡ options_after no_options places.Any arguments)
