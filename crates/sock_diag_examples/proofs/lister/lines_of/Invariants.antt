use Rattle.std.proofs.Common.{◌≡◌}
use Rattle.std.specs.Prelude.{map}
use Rattle.std.specs.List.{filter_map}
use Rattle.netlink_core.specs.Errors.{map_ok}
use Rattle.netlink_packet_sock_diag.specs.PayloadViewModel.{payload_view_model}
use Rattle.sock_diag_examples.specs.Lister.{line_of}
use Rattle.sock_diag_examples.proofs.lister.lines_of.Given as goal

-- the lines of the items so far
abbrev pub invariant-loop-item : goal.invariant-loop-item
invariant-loop-item l = l.lines.items
    ≡ filter_map line_of (map (map_ok payload_view_model) l.yielded)
