use Rattle.std.proofs.Common.{◌≡◌, length}
use Rattle.sock_diag_any.specs.Pieces.{first_of_kind, attributes_or_error}
use Rattle.sock_diag_any.specs.Pieces.{pieces_left}
use Rattle.sslist_lister.proofs.pieces.find_kind.Given as goal

-- the first match among the remaining pieces is the first match among all pieces
abbrev pub invariant-loop-piece : goal.invariant-loop-piece
invariant-loop-piece l = first_of_kind l.kind (pieces_left l.walk)
    ≡ first_of_kind l.kind (attributes_or_error 0 l.bytes)

abbrev pub decreases-loop-piece : goal.decreases-loop-piece
decreases-loop-piece l = length (pieces_left l.walk)
