use Rattle.std.proofs.Common.{◌≡◌, ◌≤◌, [], take}
use Rattle.std.specs.Prelude.{fold, reverse}
use Rattle.arrayvec.specs.ArrayVec.{array_vec_len}
use Rattle.sock_diag_filters.specs.Postfix.{with_part}
use Rattle.sock_diag_filters.specs.SocketFacts.{facts_meet}
use Rattle.sock_diag_filters.proofs.text.postfix.are_met.Given as goal

abbrev pub invariant-loop-part : goal.invariant-loop-part
invariant-loop-part l = record {
  same : reverse l.verdicts.items
      ≡ fold (with_part (facts_meet l.facts)) [] (take l.part-index l.parts);
  bound : array_vec_len l.verdicts ≤ l.part-index;
}
