use Rattle.std.proofs.Common.{◌≡◌, ◌≤◌, ◌*◌, take}
use Rattle.std.specs.Prelude.{sum_by}
use Rattle.sock_diag_filters.specs.Postfix.{part_size}
use Rattle.sock_diag_filters.proofs.text.postfix.program_len.Given as goal

abbrev pub invariant-loop-part : goal.invariant-loop-part
invariant-loop-part l = record {
  same : l.len ≡ sum_by part_size (take l.part-index l.parts);
  bound : l.len ≤ 28 * l.part-index;
}
