use Rattle.std.proofs.Common.{◌≡◌, length}
use Rattle.sock_diag_filters.specs.Readers.{state_of}
use Rattle.sock_diag_filters.specs.Reading.{completed}
use Rattle.sock_diag_filters.specs.declared.text.reader.Place.TheVariants as places
use Rattle.sock_diag_filters.proofs.text.reader.Reader.complete.Given as goal

-- what is left to complete is the same
abbrev pub invariant-loop-part : goal.invariant-loop-part
invariant-loop-part l = record {
  place : l.self.place ≡ places.Operator;
  same : completed (state_of l.self) ≡ completed (state_of l.initial.self);
}

abbrev pub decreases-loop-part : goal.decreases-loop-part
decreases-loop-part l = length l.self.pending.items
