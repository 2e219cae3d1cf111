-- The text before a table, and between two lists in it.
use Rattle.std.specs.Prelude.{ℕ, ◌||◌, not, if◌then◌else◌, Bool, List, [], ◌∷◌, ◌++◌, codes}
use Rattle.std.specs.Prelude.{Option, None, Some}
use Rattle.netlink_captures.specs.declared.captures.PacketHeader.{PacketHeader}
use Rattle.sslist_texts.specs.Escapes.{shown_name}
use Rattle.sslist_texts.specs.Times.{time_text}
use Rattle.sslist_command_line.specs.declared.options.Options.{Options}

-- `caption utf8 name`: a line with the name of a file, as names of sockets are shown, or nothing
-- for None. `utf8`: the option `--utf8`.
abbrev pub caption : Bool → Option (List ℕ) → List ℕ
caption utf8 None = []
caption utf8 (Some name) = codes "==> " ++ shown_name utf8 name ++ codes " <==" ++ 10 ∷ []

-- `text_before_table o name heading`: the caption, if there is a name, and the heading; nothing
-- with `-H` or `--json`
abbrev pub text_before_table : Options → Option (List ℕ) → List ℕ → List ℕ
text_before_table o name heading =
    if o.no_heading || o.json then [] else caption o.utf8 name ++ heading

-- `list_heading o h heading is_repetition`: the text before the lines of a request. A request that
-- repeats the first one (`is_repetition`) begins another list of sockets. Then the text is an empty
-- line (10), a line with the time of its capture, which is in the packet header `h`, and the
-- heading. It is empty for any other request, and with `-H` or `--json`.
abbrev pub list_heading : Options → PacketHeader → List ℕ → Bool → List ℕ
list_heading o h heading is_repetition =
    if not is_repetition || (o.no_heading || o.json) then []
    else 10 ∷ codes "==> " ++ time_text h ++ codes " <==" ++ 10 ∷ heading
