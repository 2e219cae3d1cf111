-- One step of the loop over the arguments of a command line.
use Rattle.std.proofs.Common.{◌≡◌, ◌≢◌, ◌<◌, ◌+◌, ℕ, true, false, List, length, map, drop, get_or}
use Rattle.std.proofs.Common.{Some, refl, ap, sym, ◌∙◌}
use Rattle.std.proofs.lemmas.List.{drop_more}
use Rattle.sslist_command_line.specs.Choice.{argument_at, decides}
use Rattle.sslist_command_line.specs.Choice.{first_deciding_argument}
use Rattle.sslist_command_line.specs.Choice.{last_place, next_place, no_options}
use Rattle.sslist_command_line.specs.Choice.{options_after, with_argument}
use Rattle.sslist_command_line.specs.declared.options.Options.{Options}
use Rattle.sslist_command_line.specs.declared.arguments.Argument.{Argument}
use Rattle.sslist_command_line.specs.declared.arguments.Argument.TheVariants as parsed_as
use Rattle.sslist_command_line.specs.declared.arguments.Place.{Place}
use Rattle.sslist_command_line.specs.declared.choice.Rejection.{Rejection}
use Rattle.sslist_command_line.specs.declared.arguments.Place.TheVariants as places

-- After the first `index` arguments: none of them decides, the next one is at this place, and the
-- options `chosen` with those of the remaining arguments are the options of all.
pub record NoneDecidesSoFar {X : Type 0} (bytes_of : X → List ℕ) (arguments : List X) (index : ℕ)
    (place : Place) (chosen : Options) : Type 0 where
  pub first : first_deciding_argument place (map bytes_of (drop index arguments))
      ≡ first_deciding_argument places.Any (map bytes_of arguments)
  pub last : last_place place (map bytes_of (drop index arguments))
      ≡ last_place places.Any (map bytes_of arguments)
  pub options : options_after chosen place (map bytes_of (drop index arguments))
      ≡ options_after no_options places.Any (map bytes_of arguments)

-- An argument that is neither Help, Version nor Rejected does not decide.
pub argument_does_not_decide : (parsed : Argument) → parsed ≢ parsed_as.Help
    → parsed ≢ parsed_as.Version → ((reason : Rejection) → parsed ≢ parsed_as.Rejected reason)
    → decides parsed ≡ false
argument_does_not_decide parsed_as.Help no_help no_version no_rejection = absurd (no_help refl)
argument_does_not_decide parsed_as.Version no_help no_version no_rejection =
    absurd (no_version refl)
argument_does_not_decide (parsed_as.Rejected reason) no_help no_version no_rejection =
    absurd (no_rejection reason refl)
argument_does_not_decide parsed_as.Utf8 no_help no_version no_rejection = refl
argument_does_not_decide parsed_as.Requests no_help no_version no_rejection = refl
argument_does_not_decide parsed_as.Json no_help no_version no_rejection = refl
argument_does_not_decide (parsed_as.Sockets family) no_help no_version no_rejection = refl
argument_does_not_decide (parsed_as.Letters needs) no_help no_version no_rejection = refl
argument_does_not_decide (parsed_as.Letter letter) no_help no_version no_rejection = refl
argument_does_not_decide parsed_as.EndOfOptions no_help no_version no_rejection = refl
argument_does_not_decide parsed_as.File no_help no_version no_rejection = refl
argument_does_not_decide parsed_as.Word no_help no_version no_rejection = refl

-- The first argument that decides is found.
pub first_deciding_argument_found : {X : Type 0} (bytes_of : X → List ℕ) (arguments : List X)
    (index : ℕ) (place : Place) (chosen : Options) (argument : X) (parsed : Argument)
    (bytes : List ℕ) → NoneDecidesSoFar bytes_of arguments index place chosen
    → index < length arguments → argument ≡ get_or arguments index argument
    → bytes ≡ bytes_of argument → parsed ≡ argument_at place bytes → decides parsed ≡ true
    → first_deciding_argument places.Any (map bytes_of arguments)
    ≡ Some (record { parsed = parsed; bytes = bytes })
first_deciding_argument_found bytes_of arguments index place chosen argument parsed bytes so_far
    in_range is same kind decided =
    sym so_far.first
    ∙ ap (λ l. first_deciding_argument place (map bytes_of l))
    (drop_more arguments index argument in_range)
    ∙ (rw (sym is, sym same, sym kind, decided) refl)

-- An argument that does not decide is added to the options.
pub argument_is_added : {X : Type 0} (bytes_of : X → List ℕ) (arguments : List X) (index : ℕ)
    (place place' : Place) (chosen chosen' : Options) (argument : X) (parsed : Argument)
    (bytes : List ℕ) → NoneDecidesSoFar bytes_of arguments index place chosen
    → index < length arguments → argument ≡ get_or arguments index argument
    → bytes ≡ bytes_of argument → parsed ≡ argument_at place bytes → decides parsed ≡ false
    → chosen' ≡ with_argument chosen parsed bytes → place' ≡ next_place place parsed
    → NoneDecidesSoFar bytes_of arguments (index + 1) place' chosen'
argument_is_added bytes_of arguments index place place' chosen chosen' argument parsed bytes so_far
    in_range is same kind undecided added next =
    let later = drop_more arguments index argument in_range in record {
      first = sym (ap (λ l. first_deciding_argument place (map bytes_of l)) later
          ∙ (rw (sym is, sym same, sym kind, undecided, next) refl)) ∙ so_far.first;
      last = sym (ap (λ l. last_place place (map bytes_of l)) later
          ∙ (rw (sym is, sym same)
          (ap (λ (q : Place). last_place q (map bytes_of (drop (index + 1) arguments)))
          (ap (next_place place) (sym kind) ∙ sym next)))) ∙ so_far.last;
      options = sym (ap (λ l. options_after chosen place (map bytes_of l)) later
          ∙ (rw (sym is, sym same, sym kind, added, next) refl)) ∙ so_far.options;
    }
