use Rattle.std.proofs.Common.{refl}
use Rattle.sock_diag_replies.specs.InetResponseSpec.{inet_response_spec}
use Rattle.sock_diag_replies.specs.UnixResponseSpec.{unix_response_spec}
use Rattle.sock_diag_any.specs.AnyHeader.{timer_at}
use Rattle.sockdiag_c.specs.Headers.{inet_header_of, unix_header_of}
use Rattle.sockdiag_c.specs.InetDetails.{inet_family}
use Rattle.sockdiag_c.specs.UnixDetails.{unix_family}
use Rattle.sockdiag_c.proofs.Agreement.{agrees_with_codec}
use Rattle.sock_diag_attributes.specs.InetAttributes.{inet_attribute_set}
use Rattle.sock_diag_attributes.specs.UnixAttributes.{unix_attribute_set}
use Rattle.sock_diag_any.specs.declared.nla.InfoFormat.TheVariants.{Unknown}
use Rattle.sock_diag_any.specs.declared.nla.Sockets.TheVariants.{Inet, Unix}
use Rattle.sockdiag_c.proofs.CheckedKinds.{error_is}
use Rattle.sockdiag_c.proofs.laws.strict_calls_agree_with_checks.Goals as goal

pub returns-clause-unix : goal.returns-clause-unix
returns-clause-unix c =
    agrees_with_codec unix_family unix_response_spec (λ payload. unix_header_of) (λ payload. refl)
    refl (error_is unix_attribute_set Unix)

pub returns-clause-inet : goal.returns-clause-inet
returns-clause-inet c =
    agrees_with_codec inet_family inet_response_spec
    (λ payload. inet_header_of (timer_at payload)) (λ payload. refl) refl
    (error_is inet_attribute_set (Inet Unknown))
