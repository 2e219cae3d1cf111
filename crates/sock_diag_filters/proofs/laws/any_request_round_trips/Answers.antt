use Rattle.sock_diag_filters.proofs.AnyReadBack.{serialized_inet_request_is_accepted}
use Rattle.sock_diag_filters.proofs.AnyReadBack.{serialized_inet_request_parses}
use Rattle.sock_diag_filters.proofs.AnyReadBack.{serialized_record_request_is_accepted}
use Rattle.sock_diag_filters.proofs.AnyReadBack.{serialized_record_request_parses}
use Rattle.sock_diag_filters.proofs.laws.any_request_round_trips.Goals as goal

pub returns-clause-records : goal.returns-clause-records
returns-clause-records c = λ family r other whole asks.
    serialized_record_request_parses family r whole other asks

pub returns-clause-records_accepted : goal.returns-clause-records_accepted
returns-clause-records_accepted c = λ family r e whole refused.
    serialized_record_request_is_accepted family r whole e refused

pub returns-clause-inet : goal.returns-clause-inet
returns-clause-inet c = λ r other can kind asks.
    serialized_inet_request_parses r can kind other asks

pub returns-clause-inet_accepted : goal.returns-clause-inet_accepted
returns-clause-inet_accepted c = λ r e can kind refused.
    serialized_inet_request_is_accepted r can kind e refused
