use Rattle.std.proofs.Common.{◌≡◌, drop}
use Rattle.sslist_command_line.specs.Choice.{listening_after}
use Rattle.sslist_command_line.proofs.arguments.listening_after.Given as goal

-- the remaining letters have the effect of all letters
abbrev pub invariant-loop-letter : goal.invariant-loop-letter
invariant-loop-letter l = listening_after l.listening (drop l.letter-index l.letters)
    ≡ listening_after l.fn.before l.letters
