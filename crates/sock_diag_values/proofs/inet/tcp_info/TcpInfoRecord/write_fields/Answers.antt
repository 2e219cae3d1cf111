use Rattle.sock_diag_values.specs.TcpInfo.{tcp_info}
use Rattle.sock_diag_values.proofs.inet.tcp_info.TcpInfoRecord.write_fields.Goals as goal

pub returns-clause-written : goal.returns-clause-written
unfolding tcp_info
returns-clause-written c = rw (c.write_metrics.ensures.written, c.write_rates.ensures.written)

pub returns-clause-in_range : goal.returns-clause-in_range
unfolding tcp_info
returns-clause-in_range c =
    let metrics = c.write_metrics.ensures.in_range in
    let rates = c.write_rates.ensures.in_range in
    (tt, assumption)
