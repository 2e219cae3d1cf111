use Rattle.std.proofs.Common.{◌∙◌, refl}
use Rattle.sock_diag_any.proofs.AnyAgreement.{inet_read_of_kind, unix_read_of_kind}
use Rattle.sock_diag_any.proofs.laws.values_agree_with_the_port.Goals as goal

pub returns : goal.returns
returns c = record {
  unix = λ a v known decoded. unix_read_of_kind a known ∙ rw decoded refl;
  inet = λ a v known decoded. inet_read_of_kind a known ∙ rw decoded refl;
}
