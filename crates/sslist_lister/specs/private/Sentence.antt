-- The parts of the text of a decode error.
use Rattle.std.specs.Prelude.{List, [], ◌++◌, decimal, ℕ}
use Rattle.netlink_core.specs.declared.error.DecodeError.{DecodeError}
use Rattle.netlink_core.specs.declared.error.DecodeError.TheVariants.{BufferTooSmall}
use Rattle.sslist_lister.specs.Diagnostics.{record_text}
use Rattle.sslist_lister.specs.declared.error_text.Sentence.{Sentence}
use Rattle.sslist_lister.specs.declared.error_text.Sentence.TheVariants.{One, Plain, Two}

-- the text of a sentence
abbrev pub sentence_text : Sentence → List ℕ
sentence_text (Plain plain) = plain.now
sentence_text (One before n after) = before.now ++ decimal n ++ after.now
sentence_text (Two before first between second after) =
    before.now ++ decimal first ++ between.now ++ decimal second ++ after.now

-- the name of the record that an error is about, or nothing if it names none
abbrev pub subject_text : DecodeError → List ℕ
subject_text (BufferTooSmall which got need) = record_text which
subject_text error = []
