use Rattle.sock_diag_filters.proofs.ReadBack.{serialized_request_is_accepted}
use Rattle.sock_diag_filters.proofs.ReadBack.{serialized_request_parses}
use Rattle.sock_diag_filters.proofs.laws.request_round_trips.Goals as goal

pub returns-clause-view : goal.returns-clause-view
returns-clause-view c = λ r view can asks. serialized_request_parses r can view asks

pub returns-clause-accepted : goal.returns-clause-accepted
returns-clause-accepted c = λ r e can kind refused.
    serialized_request_is_accepted r can e kind refused
