use Rattle.std.proofs.Common.{◌≡◌, drop}
use Rattle.sslist_lister.specs.Requests.{protocol_of}
use Rattle.sslist_lister.proofs.requests.find_in.Given as goal

-- the first match among the remaining requests is the first match among all requests
abbrev pub invariant-loop-request : goal.invariant-loop-request
invariant-loop-request l =
    protocol_of (drop l.request-index l.queries) l.sequence_number l.port_number
    ≡ protocol_of l.queries l.sequence_number l.port_number
