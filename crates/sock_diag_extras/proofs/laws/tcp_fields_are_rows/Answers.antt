use Rattle.std.proofs.Common.{refl}
use Rattle.sock_diag_values.specs.TcpInfo.{tcp_info}
use Rattle.sock_diag_extras.proofs.laws.tcp_fields_are_rows.Goals as goal

pub returns-clause-first : goal.returns-clause-first
unfolding tcp_info
returns-clause-first c = refl

pub returns-clause-later : goal.returns-clause-later
returns-clause-later c = refl
