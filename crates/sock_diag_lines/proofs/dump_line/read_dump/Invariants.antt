use Rattle.std.proofs.Common.{ℕ, ◌≤◌, List, ◌++◌, length}
use Rattle.std.specs.List.{AllByRecursion, slice_split}
use Rattle.sock_diag_lines.specs.HexField.{AreHexFields, is_space}
use Rattle.sock_diag_lines.specs.private.ReadDump.{IsReadDump}
use Rattle.sock_diag_lines.proofs.FieldLists.{HasBytes}
use Rattle.sock_diag_lines.proofs.dump_line.read_dump.Given as goal

-- the dump over the datagrams of the fields before `rest`
abbrev pub invariant-fields : goal.invariant-fields
invariant-fields l = record {
  datagrams : List (List ℕ);
  read : IsReadDump datagrams l.dump;
  -- these datagrams, followed by the datagrams of `rest`, are the datagrams of all fields; if all
  -- fields are hex fields, so are the fields of `rest`
  before : (more : List (List ℕ)) → AreHexFields l.rest more
      → AreHexFields l.fields (datagrams ++ more);
  behind : (all : List (List ℕ)) → AreHexFields l.fields all
      → AllByRecursion HasBytes (slice_split is_space l.rest);
  within : length l.rest ≤ length l.fields;
}

abbrev pub decreases-fields : goal.decreases-fields
decreases-fields l = length l.rest
