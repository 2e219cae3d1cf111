-- The captures that were listed so far.
use Rattle.std.proofs.Common.{◌≡◌, ◌<◌, ◌+◌, ℕ, Bool, true, false, List, [], ◌∷◌, ◌++◌, None}
use Rattle.std.proofs.Common.{Option, map, drop, length, get_or, refl, ap, sym, subst, ◌∙◌}
use Rattle.std.proofs.Common.{append-nil, append_assoc, arith}
use Rattle.std.proofs.lemmas.List.{drop_more, map_push}
use Rattle.std.proofs.lemmas.List.Sums.{fold_push}
use Rattle.std.specs.Prelude.{codes}
use Rattle.sslist_command_line.specs.Choice.{argument_at, is_word, names_file, next_place}
use Rattle.sslist_command_line.specs.Files.{AddsListing, Listing, ListsAll, capture_named}
use Rattle.sslist_command_line.specs.Files.{files_from, files_or_input, filter_text_from}
use Rattle.sslist_command_line.specs.Files.{last_failure}
use Rattle.sslist_command_line.specs.Files.{later_failure}
use Rattle.sslist_command_line.specs.declared.arguments.Argument.{Argument}
use Rattle.sslist_command_line.specs.declared.arguments.Place.{Place}
use Rattle.sslist_command_line.specs.declared.arguments.Place.TheVariants.{Any}

-- a capture of this name that was listed with this status
abbrev pub listing : Option (List ℕ) → ℕ → Listing
listing name status = record { name = name; status = status }

-- the name of a listed capture
abbrev pub listing_name : Listing → Option (List ℕ)
listing_name listed = listed.name

-- the exit status of a listed capture
abbrev pub listing_status : Listing → ℕ
listing_status listed = listed.status

-- the list has an element
abbrev pub is_filled : {A : Type 0} → List A → Bool
is_filled [] = false
is_filled (x ∷ xs) = true

-- `captures_from bytes_of arguments index place`: the captures in the files among the arguments
-- from this index on, the first of which is at this place
abbrev pub captures_from : {X : Type 0} → (X → List ℕ) → List X → ℕ → Place
    → List (Option (List ℕ))
captures_from bytes_of arguments index place =
    map capture_named (files_from place (map bytes_of (drop index arguments)))

-- The files among the first `index` arguments were listed, and `status` is their last failure, or
-- else 0. The next argument is at this place. `is_named` is true if there is such a file.
pub record HasListed {X : Type 0} (bytes_of : X → List ℕ) (listed : List Listing → Type 0)
    (arguments : List X) (index : ℕ) (place : Place) (status : ℕ) (is_named : Bool)
    : Type 0 where
  pub listings : List Listing
  pub seen : listed listings
  pub names : map listing_name listings ++ captures_from bytes_of arguments index place
      ≡ captures_from bytes_of arguments 0 Any
  pub last : status ≡ last_failure (map listing_status listings)
  pub named_is : is_named ≡ is_filled listings

-- The next argument is a file: its capture is the first of those that are left.
pub captures_with_file : {X : Type 0} (bytes_of : X → List ℕ) (arguments : List X) (index : ℕ)
    (place : Place) (argument : X) (parsed : Argument) (bytes : List ℕ)
    → index < length arguments → argument ≡ get_or arguments index argument
    → bytes ≡ bytes_of argument → parsed ≡ argument_at place bytes → names_file parsed ≡ true
    → captures_from bytes_of arguments index place
    ≡ capture_named bytes
    ∷ captures_from bytes_of arguments (index + 1) (next_place place parsed)
captures_with_file bytes_of arguments index place argument parsed bytes in_range is same kind file =
    ap (λ l. map capture_named (files_from place (map bytes_of l)))
    (drop_more arguments index argument in_range)
    ∙ (rw (sym is, sym same, sym kind, file) refl)

-- The next argument is not a file.
pub captures_without_file : {X : Type 0} (bytes_of : X → List ℕ) (arguments : List X) (index : ℕ)
    (place : Place) (argument : X) (parsed : Argument) (bytes : List ℕ)
    → index < length arguments → argument ≡ get_or arguments index argument
    → bytes ≡ bytes_of argument → parsed ≡ argument_at place bytes → names_file parsed ≡ false
    → captures_from bytes_of arguments index place
    ≡ captures_from bytes_of arguments (index + 1) (next_place place parsed)
captures_without_file bytes_of arguments index place argument parsed bytes in_range is same kind
    file =
    ap (λ l. map capture_named (files_from place (map bytes_of l)))
    (drop_more arguments index argument in_range)
    ∙ (rw (sym is, sym same, sym kind, file) refl)

-- the text of the words of the filter among the arguments from this index on, the first of which is
-- at this place
abbrev pub text_from : {X : Type 0} → (X → List ℕ) → List X → ℕ → Place → List ℕ
text_from bytes_of arguments index place =
    filter_text_from place (map bytes_of (drop index arguments))

-- The next argument is a word of the filter.
pub text_with_word : {X : Type 0} (bytes_of : X → List ℕ) (arguments : List X) (index : ℕ)
    (place : Place) (argument : X) (parsed : Argument) (bytes : List ℕ)
    → index < length arguments → argument ≡ get_or arguments index argument
    → bytes ≡ bytes_of argument → parsed ≡ argument_at place bytes → is_word parsed ≡ true
    → text_from bytes_of arguments index place
    ≡ (bytes ++ codes " ") ++ text_from bytes_of arguments (index + 1) (next_place place parsed)
text_with_word bytes_of arguments index place argument parsed bytes in_range is same kind word =
    ap (λ l. filter_text_from place (map bytes_of l)) (drop_more arguments index argument in_range)
    ∙ (rw (sym is, sym same, sym kind, word) refl)

-- The next argument is not one.
pub text_without_word : {X : Type 0} (bytes_of : X → List ℕ) (arguments : List X) (index : ℕ)
    (place : Place) (argument : X) (parsed : Argument) (bytes : List ℕ)
    → index < length arguments → argument ≡ get_or arguments index argument
    → bytes ≡ bytes_of argument → parsed ≡ argument_at place bytes → is_word parsed ≡ false
    → text_from bytes_of arguments index place
    ≡ text_from bytes_of arguments (index + 1) (next_place place parsed)
text_without_word bytes_of arguments index place argument parsed bytes in_range is same kind
    other =
    ap (λ l. filter_text_from place (map bytes_of l)) (drop_more arguments index argument in_range)
    ∙ (rw (sym is, sym same, sym kind, other) refl)

is_filled-push : {A : Type 0} (xs : List A) (y : A) → is_filled (xs ++ y ∷ []) ≡ true
is_filled-push [] y = refl
is_filled-push (x ∷ xs) y = refl

-- One more file was listed.
pub file_more : {X : Type 0} (bytes_of : X → List ℕ) (listed listed' : List Listing → Type 0)
    (arguments : List X) (index : ℕ) (place place' : Place) (name : Option (List ℕ))
    (status next status' : ℕ) (is_named : Bool)
    → HasListed bytes_of listed arguments index place status is_named
    → captures_from bytes_of arguments index place
    ≡ name ∷ captures_from bytes_of arguments (index + 1) place'
    → status' ≡ later_failure status next → AddsListing listed listed' (listing name next)
    → HasListed bytes_of listed' arguments (index + 1) place' status' true
file_more bytes_of listed listed' arguments index place place' name status next status' is_named
    so_far file is more =
    let names = map listing_name so_far.listings in record {
      listings = so_far.listings ++ listing name next ∷ [];
      seen = more so_far.listings so_far.seen;
      names = ap (λ l. l ++ captures_from bytes_of arguments (index + 1) place')
          (map_push listing_name so_far.listings _)
          ∙ append_assoc names (name ∷ []) _ ∙ ap (λ l. names ++ l) (sym file) ∙ so_far.names;
      last = is ∙ ap (λ (s : ℕ). later_failure s next) so_far.last
          ∙ sym (ap last_failure (map_push listing_status so_far.listings _)
          ∙ fold_push later_failure 0 (map listing_status so_far.listings) next);
      named_is = sym (is_filled-push so_far.listings _);
    }

-- An argument that does not name a file was skipped.
pub option_more : {X : Type 0} (bytes_of : X → List ℕ) (listed : List Listing → Type 0)
    (arguments : List X) (index : ℕ) (place place' : Place) (status : ℕ) (is_named : Bool)
    → HasListed bytes_of listed arguments index place status is_named
    → captures_from bytes_of arguments index place
    ≡ captures_from bytes_of arguments (index + 1) place'
    → HasListed bytes_of listed arguments (index + 1) place' status is_named
option_more bytes_of listed arguments index place place' status is_named so_far file = record {
  listings = so_far.listings;
  seen = so_far.seen;
  names = ap (λ l. map listing_name so_far.listings ++ l) (sym file) ∙ so_far.names;
  last = so_far.last;
  named_is = so_far.named_is;
}

some_files : (listings : List Listing) (files : List (List ℕ)) → is_filled listings ≡ true
    → map listing_name listings ≡ map capture_named files
    → map listing_name listings ≡ files_or_input files
some_files [] files h same = absurd (cc)
some_files (l ∷ ls) [] h same = absurd (cc)
some_files (l ∷ ls) (file ∷ files) h same = same

no_files : (listings : List Listing) (files : List (List ℕ)) → is_filled listings ≡ false
    → map listing_name listings ≡ map capture_named files
    → (listings ≡ []) × (files ≡ [])
no_files [] [] h same = (refl, refl)
no_files [] (file ∷ files) h same = absurd (cc)
no_files (l ∷ ls) files h same = absurd (cc)

last_one : (n : ℕ) → n ≡ last_failure (n ∷ [])
last_one n =
    grind arith

-- The arguments name files, and all were listed.
pub files_only : {X : Type 0} (bytes_of : X → List ℕ) (listed : List Listing → Type 0)
    (arguments : List X) (index : ℕ) (place : Place) (status : ℕ)
    → HasListed bytes_of listed arguments index place status true → drop index arguments ≡ []
    → ListsAll listed (map bytes_of arguments) status
files_only bytes_of listed arguments index place status all end = (
  all.listings,
  all.seen,
  some_files all.listings (files_from Any (map bytes_of arguments)) (sym all.named_is)
      (sym (append-nil _) ∙ (rw end at all.names)),
  all.last,
)

-- The arguments name no file, and standard input was listed.
pub input_only : {X : Type 0} (bytes_of : X → List ℕ) (listed listed' : List Listing → Type 0)
    (arguments : List X) (index : ℕ) (place : Place) (status next : ℕ)
    → HasListed bytes_of listed arguments index place status false → drop index arguments ≡ []
    → AddsListing listed listed' (listing None next)
    → ListsAll listed' (map bytes_of arguments) next
input_only bytes_of listed listed' arguments index place status next all end more =
    let (nil, none) =
    no_files all.listings (files_from Any (map bytes_of arguments)) (sym all.named_is)
    (sym (append-nil _) ∙ (rw end at all.names)) in (
      listing None next ∷ [],
      subst (λ (l : List Listing). listed' (l ++ listing None next ∷ [])) nil
          (more all.listings all.seen),
      (rw none refl),
      last_one next,
    )
