use Rattle.std.proofs.Common.{◌≡◌, ◌++◌, drop, flat_map}
use Rattle.sslist_lister.specs.Explanation.{kernel_text_byte}
use Rattle.sslist_lister.proofs.explanation.push_kernel_text_bytes.Given as goal

-- the text so far, followed by the remaining bytes, is the text at the end
abbrev pub invariant-loop-byte : goal.invariant-loop-byte
invariant-loop-byte l = l.text.items ++ flat_map kernel_text_byte (drop l.byte-index l.bytes)
    ≡ l.fn.text.items ++ flat_map kernel_text_byte l.bytes
