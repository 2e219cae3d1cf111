use Rattle.std.proofs.Common.{refl}
use Rattle.netlink_core.proofs.SignificantBits.{equivalent_by_masks}
use Rattle.sock_diag_records.specs.SignificantBits.{unix_request_masks}
use Rattle.sock_diag_records.specs.UnixRequest.{unix_request}
use Rattle.sock_diag_records.proofs.laws.equivalent_unix_requests.Goals as goal

pub returns : goal.returns
returns c = equivalent_by_masks unix_request unix_request_masks (λ b. refl) refl refl
