use Rattle.std.proofs.Common.{◌∙◌, arith, sym}
use Rattle.sock_diag_attributes.specs.InetAttributes.{inet_attribute_set}
use Rattle.sock_diag_attributes.specs.UnixAttributes.{unix_attribute_set}
use Rattle.sock_diag_any.specs.AnyNla.{netlink_rows, packet_rows, xdp_rows}
use Rattle.sock_diag_any.specs.declared.nla.InfoFormat.TheVariants.{Unknown}
use Rattle.sock_diag_any.specs.declared.nla.Sockets.TheVariants.{Inet, Unix}
use Rattle.sockdiag_c.proofs.CheckedKinds.{error_is}
use Rattle.sockdiag_c.proofs.RejectedKinds.{rejected_kind_is_below, rejected_row_is_below}
use Rattle.sockdiag_c.proofs.laws.every_rejected_kind_has_a_code.Goals as goal

pub returns-clause-unix : goal.returns-clause-unix
returns-clause-unix c a e is =
    rejected_kind_is_below unix_attribute_set 32 (grind arith) a e
    (sym (error_is unix_attribute_set Unix a) ∙ is)

pub returns-clause-inet : goal.returns-clause-inet
returns-clause-inet c a e is =
    rejected_kind_is_below inet_attribute_set 32 (grind arith) a e
    (sym (error_is inet_attribute_set (Inet Unknown) a) ∙ is)

pub returns-clause-netlink : goal.returns-clause-netlink
returns-clause-netlink c = rejected_row_is_below netlink_rows 32 (grind arith)

pub returns-clause-packet : goal.returns-clause-packet
returns-clause-packet c = rejected_row_is_below packet_rows 32 (grind arith)

pub returns-clause-xdp : goal.returns-clause-xdp
returns-clause-xdp c = rejected_row_is_below xdp_rows 32 (grind arith)
