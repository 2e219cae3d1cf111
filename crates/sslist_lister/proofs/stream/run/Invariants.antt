use Rattle.std.proofs.Common.{◌≡◌}
use Rattle.netlink_captures.specs.Reader.{state_of}
use Rattle.sslist_texts.proofs.Reporting.{ReportsMore}
use Rattle.program_streams.specs.declared.streams.WriteError.{WriteError}
use Rattle.sslist_lister.specs.Requests.{past_requests}
use Rattle.sslist_lister.proofs.Progress.{Progress}
use Rattle.sslist_lister.proofs.stream.run.Given as goal

-- the packets so far were read and listed, and their diagnostics were reported
abbrev pub invariant-packets : goal.invariant-packets
invariant-packets g l = record {
  listed : Progress l.options l.front (state_of l.initial.reader)
      (g.R.Source.left l.initial.input) (g.R.Source.left l.input)
      (g.W.Sink.held l.initial.output) (g.W.Sink.held l.output) (state_of l.reader)
      (past_requests l.requests) l.is_whole l.number;
  reported : ReportsMore (g.E.Sink.held l.initial.errors)
      ((e : WriteError) × g.E.Sink.failed l.initial.errors e) l.initial.is_open
      (g.E.Sink.held l.errors) ((e : WriteError) × g.E.Sink.failed l.errors e) l.is_open
      listed.diagnostics;
  front : l.written.front.now ≡ l.front;
}
