use Rattle.std.proofs.Common.{◌≡◌, ◌++◌, string_bytes}
use Rattle.sslist_command_line.proofs.Listed.{text_from}
use Rattle.sslist_command_line.specs.declared.arguments.Place.TheVariants.{Any}
use Rattle.sslist_command_line.proofs.files.filter_text.Given as goal

-- the text so far, and that of the remaining arguments, are the text of all
abbrev pub invariant-loop-argument : goal.invariant-loop-argument
invariant-loop-argument l =
    l.text.items ++ text_from string_bytes l.arguments l.argument-index l.place
    ≡ text_from string_bytes l.arguments 0 Any
