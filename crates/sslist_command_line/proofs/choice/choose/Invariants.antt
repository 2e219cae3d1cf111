use Rattle.std.proofs.Common.{string_bytes}
use Rattle.sslist_command_line.proofs.Choosing.{NoneDecidesSoFar}
use Rattle.sslist_command_line.proofs.choice.choose.Given as goal

-- no argument so far decides, and the options of the arguments so far are set
abbrev pub invariant-loop-argument : goal.invariant-loop-argument
invariant-loop-argument l =
    NoneDecidesSoFar string_bytes l.arguments l.argument-index l.place l.options
