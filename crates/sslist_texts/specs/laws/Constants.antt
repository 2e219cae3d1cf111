-- The numbers of the constants that definitions name.
use Rattle.std.proofs.Common.{◌≡◌, refl}
use Rattle.sslist_texts.specs.declared.cells.TheConstants as cells
use Rattle.sslist_texts.specs.declared.names.TheConstants as names

-- the widths of the columns, by the heading of the table
pub widths : (cells.NETID_WIDTH ≡ 5) × (cells.STATE_WIDTH ≡ 10) × (cells.QUEUE_WIDTH ≡ 6)
    × (cells.INODE_WIDTH ≡ 10) × (cells.UID_WIDTH ≡ 5)
widths = (refl, refl, refl, refl, refl)

-- blank characters of Unicode
pub blank_characters : (names.BRAILLE_BLANK ≡ 0x2800) × (names.NULL_NOTEHEAD ≡ 0x1d159)
    × (names.HIEROGLYPH_FULL_BLANK ≡ 0x13441) × (names.HIEROGLYPH_HALF_BLANK ≡ 0x13442)
blank_characters = (refl, refl, refl, refl)
