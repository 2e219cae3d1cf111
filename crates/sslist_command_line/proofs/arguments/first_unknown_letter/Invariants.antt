use Rattle.std.proofs.Common.{◌≡◌, drop}
use Rattle.sslist_command_line.specs.Choice.{first_unknown_letter}
use Rattle.sslist_command_line.proofs.arguments.first_unknown_letter.Given as goal

-- the first unknown letter among the remaining ones is the first among all
abbrev pub invariant-loop-letter : goal.invariant-loop-letter
invariant-loop-letter l = first_unknown_letter (drop l.letter-index l.letters)
    ≡ first_unknown_letter l.letters
