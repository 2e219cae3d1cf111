use Rattle.std.proofs.Common.{string_bytes}
use Rattle.std.specs.Process.{exit_status}
use Rattle.sslist_command_line.proofs.Listed.{HasListed}
use Rattle.sslist_command_line.proofs.files.list_captures.Given as goal

-- the files among the arguments so far were listed
abbrev pub invariant-loop-argument : goal.invariant-loop-argument
invariant-loop-argument g l = HasListed string_bytes (g.L.ListCapture.listed l.lister) l.arguments
    l.argument-index l.place (exit_status l.status) l.is_named
