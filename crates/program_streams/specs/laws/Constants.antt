-- The numbers of the constants that definitions name.
use Rattle.std.proofs.Common.{◌≡◌, refl}
use Rattle.program_streams.specs.declared.streams.TheConstants as c

-- numbers of errno(3), as Linux has them on most processors
pub error_numbers : (c.EIO ≡ 5) × (c.EBADF ≡ 9) × (c.EFBIG ≡ 27) × (c.ENOSPC ≡ 28)
    × (c.EDQUOT ≡ 122)
error_numbers = (refl, refl, refl, refl, refl)
