use Rattle.std.proofs.Common.{◌≡◌, ◌++◌, drop, flat_map}
use Rattle.sslist_facts.specs.Md5Keys.{key_byte}
use Rattle.sslist_facts.proofs.md5_keys.push_key_bytes.Given as goal

-- the text so far, followed by the remaining bytes, is the text at the end
abbrev pub invariant-loop-byte : goal.invariant-loop-byte
invariant-loop-byte l = l.text.items ++ flat_map key_byte (drop l.byte-index l.bytes)
    ≡ l.fn.text.items ++ flat_map key_byte l.bytes
