use Rattle.sock_diag_attributes.specs.InetAttributes.{inet_attribute_set}
use Rattle.sock_diag_attributes.specs.UnixAttributes.{unix_attribute_set}
use Rattle.sock_diag_any.specs.declared.nla.InfoFormat.TheVariants.{Unknown}
use Rattle.sock_diag_any.specs.declared.nla.Sockets.TheVariants.{Inet, Unix}
use Rattle.sock_diag_any.proofs.AnyAgreement.{agrees_with_port, inet_errors, inet_values}
use Rattle.sock_diag_any.proofs.AnyAgreement.{unix_errors, unix_values}
use Rattle.sock_diag_any.proofs.laws.items_agree_with_the_port.Goals as goal

pub returns : goal.returns
returns c = record {
  unix = agrees_with_port unix_attribute_set Unix unix_errors unix_values;
  inet = agrees_with_port inet_attribute_set (Inet Unknown) inet_errors inet_values;
}
