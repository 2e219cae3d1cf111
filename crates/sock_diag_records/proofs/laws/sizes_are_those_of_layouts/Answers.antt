use Rattle.std.proofs.Common.{refl}
use Rattle.sock_diag_records.specs.InetRequest.{inet_request}
use Rattle.sock_diag_records.specs.InetResponse.{inet_response_header}
use Rattle.sock_diag_records.specs.SocketId.{socket_id}
use Rattle.sock_diag_records.proofs.laws.sizes_are_those_of_layouts.Goals as goal

pub returns-clause-inet_request : goal.returns-clause-inet_request
unfolding inet_request
returns-clause-inet_request c = refl

pub returns-clause-inet_response_header : goal.returns-clause-inet_response_header
unfolding inet_response_header
returns-clause-inet_response_header c = refl

pub returns-clause-socket_id : goal.returns-clause-socket_id
unfolding socket_id
returns-clause-socket_id c = refl
