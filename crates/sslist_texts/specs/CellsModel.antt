-- The model of `Cells`: what contracts see of it.
use Rattle.sslist_texts.specs.declared.cells.Cells.{Cells}
use Rattle.sslist_texts.specs.Cells.{FirstColumns}

-- the same fields, and the bytes of `kind` and `state` for the references to them
abbrev pub cells_model : Cells → FirstColumns
cells_model cells = record {
  kind = cells.kind.now;
  state = cells.state.now;
  receive_queue = cells.receive_queue;
  send_queue = cells.send_queue;
  inode = cells.inode;
  uid = cells.uid;
}
