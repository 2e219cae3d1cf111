-- The captures that a command line names, the exit status, and the text of the filter.
use Rattle.std.specs.Prelude.{◌≡◌, ℕ, ◌==◌, if◌then◌else◌, List, [], ◌∷◌, ◌++◌, Option, Some, None}
use Rattle.std.specs.Prelude.{bytes_eq, codes, filter, flat_map, fold, map}
use Rattle.sslist_command_line.specs.Choice.{is_word, names_file, parsed_arguments}
use Rattle.sslist_command_line.specs.declared.arguments.Place.{Place}
use Rattle.sslist_command_line.specs.declared.arguments.Place.TheVariants.{Any}

-- A capture that was listed.
pub record Listing : Type 0 where
  -- the name of the file, or None for standard input
  pub name : Option (List ℕ)
  -- the exit status of the listing
  pub status : ℕ

-- `files_from place arguments`: the names of files among these arguments, the first of which is at
-- this place
abbrev pub files_from : Place → List (List ℕ) → List (List ℕ)
files_from place arguments =
    map (λ argument. argument.bytes)
    (filter (λ argument. names_file argument.parsed) (parsed_arguments place arguments))

-- the capture in the file of this name, or the one on standard input (None) if the name is `-`
abbrev pub capture_named : List ℕ → Option (List ℕ)
capture_named name = if bytes_eq name (codes "-") then None else Some name

-- the captures in these files, or the one on standard input if there is no file
abbrev pub files_or_input : List (List ℕ) → List (Option (List ℕ))
files_or_input [] = None ∷ []
files_or_input (file ∷ files) = map capture_named (file ∷ files)

-- the captures that the arguments name, in order
abbrev pub captures_in : List (List ℕ) → List (Option (List ℕ))
captures_in arguments = files_or_input (files_from Any arguments)

-- `filter_text_from place arguments`: the text of the words of the filter among these arguments,
-- each with a space after it. The first argument is at this place.
abbrev pub filter_text_from : Place → List (List ℕ) → List ℕ
filter_text_from place arguments = flat_map
    (λ argument. if is_word argument.parsed then argument.bytes ++ codes " " else [])
    (parsed_arguments place arguments)

-- the text of the filter in the arguments
abbrev pub filter_text : List (List ℕ) → List ℕ
filter_text arguments = filter_text_from Any arguments

-- `later_failure before status`: `status` unless it is 0, or else `before`
abbrev pub later_failure : ℕ → ℕ → ℕ
later_failure before status = if status == 0 then before else status

-- the last status that is not 0, or 0 if all are
abbrev pub last_failure : List ℕ → ℕ
last_failure statuses = fold later_failure 0 statuses

-- ---- what a lister has listed: `listed listings` states that it has listed these captures

-- `AddsListing listed listed' one`: the capture `one` was listed. If the captures `before` had been
-- listed (`listed before`), then `before` and after them `one` have been listed now (`listed'`).
abbrev pub AddsListing : (List Listing → Type 0) → (List Listing → Type 0) → Listing → Type 0
AddsListing listed listed' one =
    (before : List Listing) → listed before → listed' (before ++ one ∷ [])

-- `ListsAll listed arguments status`: all captures that the arguments name were listed, in order,
-- and `status` is the last one of theirs that is not 0, or else 0.
abbrev pub ListsAll : (List Listing → Type 0) → List (List ℕ) → ℕ → Type 0
ListsAll listed arguments status = (listings : List Listing) × listed listings
    × (map (λ listing. listing.name) listings ≡ captures_in arguments)
    × (status ≡ last_failure (map (λ listing. listing.status) listings))
