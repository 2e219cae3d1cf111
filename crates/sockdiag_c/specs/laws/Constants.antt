-- The numbers of the constants that definitions and contracts name.
use Rattle.std.proofs.Common.{◌≡◌, refl}
use Rattle.sockdiag_c.specs.declared.details.TheConstants as details
use Rattle.sockdiag_c.specs.declared.error_details.TheConstants as explain
use Rattle.sockdiag_c.specs.declared.headers.TheConstants as headers
use Rattle.sockdiag_c.specs.declared.lenient.TheConstants.{REJECTION_KINDS}

-- kinds of texts: SOCKDIAG_TEXT, SOCKDIAG_ABSTRACT and SOCKDIAG_BYTES of include/sockdiag.h
pub text_kinds : (details.TEXT ≡ 1) × (details.ABSTRACT ≡ 2) × (details.BYTES ≡ 3)
text_kinds = (refl, refl, refl)

-- kinds of replies: SOCKDIAG_UNIX and SOCKDIAG_INET of include/sockdiag.h
pub reply_kinds : (headers.UNIX ≡ 1) × (headers.INET ≡ 2)
reply_kinds = (refl, refl)

-- SOCKDIAG_REJECTION_KINDS of include/sockdiag.h
pub rejection_kinds : REJECTION_KINDS ≡ 32
rejection_kinds = refl

-- SOCKDIAG_EXPLAIN_MESSAGE to SOCKDIAG_EXPLAIN_INET_ATTRIBUTE of include/sockdiag.h: above the
-- families
pub explained : (explain.EXPLAIN_MESSAGE ≡ 256) × (explain.EXPLAIN_DATAGRAM ≡ 257)
    × (explain.EXPLAIN_UNIX_ATTRIBUTE ≡ 258) × (explain.EXPLAIN_INET_ATTRIBUTE ≡ 259)
explained = (refl, refl, refl, refl)
