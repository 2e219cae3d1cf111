use Rattle.std.proofs.Common.{◌≡◌, ◌++◌, drop, flat_map, string_bytes}
use Rattle.sslist_texts.specs.Escapes.{escaped_byte}
use Rattle.sslist_texts.proofs.names.escaped.Given as goal

-- the text so far, followed by the remaining bytes, is the text at the end
abbrev pub invariant-loop-byte : goal.invariant-loop-byte
invariant-loop-byte l = string_bytes l.shown ++ flat_map escaped_byte (drop l.byte-index l.bytes)
    ≡ flat_map escaped_byte l.bytes
