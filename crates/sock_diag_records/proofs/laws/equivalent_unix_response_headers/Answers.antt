use Rattle.std.proofs.Common.{refl}
use Rattle.netlink_core.proofs.SignificantBits.{equivalent_by_masks}
use Rattle.sock_diag_records.specs.SignificantBits.{unix_response_header_masks}
use Rattle.sock_diag_records.specs.UnixResponseHeader.{unix_response_header}
use Rattle.sock_diag_records.proofs.laws.equivalent_unix_response_headers.Goals as goal

pub returns : goal.returns
returns c =
    equivalent_by_masks unix_response_header unix_response_header_masks (λ b. refl) refl refl
