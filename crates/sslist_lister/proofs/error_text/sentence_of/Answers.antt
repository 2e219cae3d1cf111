use Rattle.std.proofs.Common.{append_assoc, arith, refl}
use Rattle.sslist_lister.proofs.error_text.sentence_of.Goals as goal

pub returns-in-BufferTooSmall : goal.returns-in-BufferTooSmall
returns-in-BufferTooSmall c = rw c.in-BufferTooSmall.is (grind (arith, append_assoc))

pub returns-in-UnsupportedFamily : goal.returns-in-UnsupportedFamily
returns-in-UnsupportedFamily c = rw c.in-UnsupportedFamily.is refl

pub returns-in-AttributeLengthUnder4 : goal.returns-in-AttributeLengthUnder4
returns-in-AttributeLengthUnder4 c = rw c.in-AttributeLengthUnder4.is refl

pub returns-in-NotMultipleOfFour : goal.returns-in-NotMultipleOfFour
returns-in-NotMultipleOfFour c = rw c.in-NotMultipleOfFour.is refl

pub returns-in-EnvelopeLengthUnder16 : goal.returns-in-EnvelopeLengthUnder16
returns-in-EnvelopeLengthUnder16 c = rw c.in-EnvelopeLengthUnder16.is refl
