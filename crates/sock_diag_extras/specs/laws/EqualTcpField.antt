-- `==` of two `TcpField`s is true if and only if they are equal.
use Rattle.std.proofs.Common.{rules, ◌≡◌, ◌↔◌, IsTrue}
use denote.Enum.Bare.{same_true, true_same}
use Rattle.sock_diag_extras.specs.declared.tcp_info.TcpField.{TcpField}
use Rattle.sock_diag_extras.specs.contracts.tcp_info.TcpField.{the_type}
use Rattle.sock_diag_extras.specs.contracts.tcp_info.TcpFieldPartialEq.TheImpl.{ghosts}

pub tcp_field_equal : (v w : TcpField) → IsTrue (ghosts.eq v w) ↔ (v ≡ w)
tcp_field_equal v w = (same_true the_type (search rules) v w, true_same the_type v w)
