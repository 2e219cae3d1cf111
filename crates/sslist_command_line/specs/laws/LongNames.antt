-- A long name means what its letter means alone.
use Rattle.std.proofs.Common.{◌≡◌, ℕ, List, [], ◌∷◌, None, rules}
use Rattle.std.specs.Prelude.{⊤}
use Rattle.std.specs.List.{AllByRecursion}
use Rattle.sslist_command_line.specs.Choice.{first_deciding_argument, last_place}
use Rattle.sslist_command_line.specs.Choice.{flag_argument, options_after}
use Rattle.sslist_command_line.specs.declared.arguments.Argument.{Argument}
use Rattle.sslist_command_line.specs.declared.arguments.Argument.TheVariants.{Letter}
use Rattle.sslist_command_line.specs.declared.arguments.Place.TheVariants.{Any}
use Rattle.sslist_command_line.specs.declared.arguments.TheConstants.{FLAGS}
use Rattle.sslist_command_line.specs.declared.options.Options.{Options}

-- the argument that is a hyphen (45) and this letter
abbrev pub letter_argument : ℕ → List ℕ
letter_argument letter = 45 ∷ letter ∷ []

-- `HaveSameEffect argument other`: neither decides by itself, and as the only argument both lead to
-- the same place and have the same effect on any options.
abbrev pub HaveSameEffect : List ℕ → List ℕ → Type 0
HaveSameEffect argument other =
    (first_deciding_argument Any (argument ∷ []) ≡ None)
    × (first_deciding_argument Any (other ∷ []) ≡ None)
    × (last_place Any (argument ∷ []) ≡ last_place Any (other ∷ []))
    × ((options : Options)
    → options_after options Any (argument ∷ []) ≡ options_after options Any (other ∷ []))

-- `MeansItsLetter name parsed`: if the option with this name is parsed as a letter, it has the
-- effect of a hyphen and this letter
abbrev pub MeansItsLetter : List ℕ → Argument → Type 0
MeansItsLetter name (Letter letter) = HaveSameEffect name (letter_argument letter)
MeansItsLetter name parsed = ⊤

-- Each long name of a letter has the effect of a hyphen and the letter.
pub long_name_means_letter : AllByRecursion (λ row. MeansItsLetter row.0.now row.1) FLAGS
unfolding flag_argument
long_name_means_letter = search rules
