use Rattle.std.proofs.Common.{◌≡◌, ◌<◌, drop, length}
use Rattle.std.specs.Prelude.{IfSome}
use Rattle.sock_diag_filters.specs.Values.{port_colon, port_colon_from}
use Rattle.sock_diag_filters.proofs.text.values.port_colon.Given as goal

-- the colon among the remaining bytes, or else the one so far, is the colon of the text
abbrev pub invariant-loop-index : goal.invariant-loop-index
invariant-loop-index l = record {
  same : port_colon_from l.index l.found (drop l.index l.text) ≡ port_colon l.text;
  bound : IfSome l.found (λ index. index < length l.text);
}
