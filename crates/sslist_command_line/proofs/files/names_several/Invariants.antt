use Rattle.std.proofs.Common.{◌≡◌, ◌+◌, length, if◌then◌else◌, string_bytes}
use Rattle.sslist_command_line.proofs.Listed.{captures_from}
use Rattle.sslist_command_line.specs.declared.arguments.Place.TheVariants.{Any}
use Rattle.sslist_command_line.proofs.files.names_several.Given as goal

-- the number of captures in files is that of the remaining ones, and one more if there was one
abbrev pub invariant-loop-argument : goal.invariant-loop-argument
invariant-loop-argument l = length (captures_from string_bytes l.arguments 0 Any)
    ≡ (if l.has_one then 1 else 0)
    + length (captures_from string_bytes l.arguments l.argument-index l.place)
