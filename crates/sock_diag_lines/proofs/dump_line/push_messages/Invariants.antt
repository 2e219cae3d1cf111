use Rattle.std.proofs.Common.{◌≡◌, ◌++◌, drop}
use Rattle.sock_diag_lines.specs.private.ReadDump.{texts_in}
use Rattle.sock_diag_lines.proofs.dump_line.push_messages.Given as goal

-- what was appended and what is left to append are the whole
abbrev pub invariant-loop-len : goal.invariant-loop-len
invariant-loop-len l = l.text.items ++ texts_in (drop l.len-index l.lengths) l.rest
    ≡ l.fn.text.items ++ texts_in l.lengths l.bytes
