use Rattle.std.proofs.Common.{◌≡◌, length, option_map}
use Rattle.netlink_core.specs.Walk.{buffered_attribute}
use Rattle.sock_diag_any.specs.Pieces.{attributes_or_error, last_after, last_of_kind}
use Rattle.sock_diag_any.specs.Pieces.{pieces_left}
use Rattle.sslist_lister.proofs.pieces.find_last_of_kind.Given as goal

-- the last match so far, or a later one among the remaining pieces, is the last match among all
-- pieces
abbrev pub invariant-loop-piece : goal.invariant-loop-piece
invariant-loop-piece l =
    last_after l.kind (option_map buffered_attribute l.last) (pieces_left l.walk)
    ≡ last_of_kind l.kind (attributes_or_error 0 l.bytes)

abbrev pub decreases-loop-piece : goal.decreases-loop-piece
decreases-loop-piece l = length (pieces_left l.walk)
