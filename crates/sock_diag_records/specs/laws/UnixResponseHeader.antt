-- The layout `unix_response_header` is sound (`MeetsLayoutConditions`).
use Rattle.std.proofs.Common.{refl, arith}
use Rattle.netlink_core.proofs.LayoutLaws.{plain_sound}
use Rattle.netlink_core.specs.laws.LayoutObligations.{MeetsLayoutConditions}
use Rattle.netlink_core.proofs.FieldReads.{first_numbers_are_all}
use Rattle.sock_diag_records.specs.UnixResponseHeader.{unix_response_header}

pub unix_response_header_sound : MeetsLayoutConditions unix_response_header
unix_response_header_sound =
    plain_sound refl (λ _. refl) (λ _. refl) (λ _. refl)
    (λ value shaped. grind (arith, first_numbers_are_all 8))
