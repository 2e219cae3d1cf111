use Rattle.std.proofs.Common.{◌≡◌, ◌++◌, IsUtf8, chars, flat_map}
use Rattle.std.specs.Str.Iter.{chars_rest}
use Rattle.sslist_texts.specs.Escapes.{shown_character}
use Rattle.sslist_texts.proofs.names.push_chars.Given as goal

-- the text so far, followed by the remaining characters, is the text at the end
abbrev pub invariant-loop-c : goal.invariant-loop-c
invariant-loop-c l = IsUtf8 (chars_rest l.c-iterator)
    × (l.text.items ++ flat_map shown_character (chars (chars_rest l.c-iterator))
    ≡ l.fn.text.items ++ flat_map shown_character (chars l.name))
