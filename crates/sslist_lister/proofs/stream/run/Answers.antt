use Rattle.std.proofs.Common.{◌≡◌, ◌⊎◌, inl, inr, ℕ, ◌+◌, List, [], ◌++◌, ◌∙◌, Bool, true, false}
use Rattle.std.proofs.Common.{ap, arith, refl, subst, sym}
use Rattle.std.specs.Io.KnownBytes.{Appends, Consumes}
use Rattle.std.specs.Prelude.{flat_map, MatchOption, Option, None, Some}
use Rattle.std.proofs.KnownBytes.{Appends-kept, Appends-trans}
use Rattle.std.proofs.KnownBytes.{Consumes-trans}
use Rattle.std.proofs.lemmas.Result.{err_from_is_err_and}
use Rattle.sslist_texts.proofs.Reporting.{reports_nothing, reports_then}
use Rattle.netlink_captures.specs.Capture.{CapturedPacket, captured_packet}
use Rattle.netlink_captures.specs.Reader.{CaptureState, ReadsPacket, state_of}
use Rattle.netlink_captures.specs.declared.captures.PacketHeader.{PacketHeader}
use Rattle.sslist_command_line.specs.declared.options.Options.{Options}
use Rattle.sslist_texts.proofs.Reporting.{ReportsMore}
use Rattle.sslist_lister.specs.Diagnostics.{DiagnosesPacket}
use Rattle.sslist_lister.specs.Listing.{ListsCapturedPacket, requests_after_packet}
use Rattle.sslist_lister.proofs.Progress.{IsListed, lines_of_packet}
use Rattle.sslist_lister.specs.Requests.{PastRequests, past_requests}
use Rattle.sslist_lister.proofs.Failing.{fails_at_flush, fails_at_header, fails_at_heading}
use Rattle.sslist_lister.proofs.Failing.{fails_at_lines, fails_at_memory, fails_at_packet}
use Rattle.sslist_lister.proofs.Failing.{fails_past_numbers, no_memory, no_write, table_of}
use Rattle.sslist_lister.proofs.Failing.{write_cause}
use Rattle.sslist_lister.proofs.Progress.{Progress, progress_continues_incomplete}
use Rattle.sslist_lister.proofs.Progress.{progress_continues_complete, progress_begins}
use Rattle.sslist_lister.proofs.stream.run.Goals.{then-is_whole, else-is_whole}
use Rattle.sslist_lister.proofs.stream.run.Goals as goal

-- If there is no packet, the clause of the end of the input holds.
none_read : {A : Type 0} (listings : Option A) (P : Type 0) (Q : A → Type 0)
    → ((x : A) → listings ≡ Some x → ⊥) → MatchOption listings P Q → P
none_read None P Q other h = h
none_read (Some n) P Q other h = absurd (other n refl)

-- What follows if an option is known to have a value.
of_some : {A : Type 0} (found : Option A) (x : A) (P : Type 0) (Q : A → Type 0)
    → found ≡ Some x → MatchOption found P Q → Q x
of_some found x P Q is h = rw is at h

-- What `list_packet` states of a packet, for its bytes and empty texts.
told_of_packet : (o : Options) (front front' : List ℕ) (past past' : PastRequests) (number : ℕ)
    (bytes bytes' : List ℕ) (header : PacketHeader) (before before' lines said : List ℕ)
    (one : Bool)
    → bytes ≡ bytes' → before ≡ [] → before' ≡ [] → front' ≡ front
    → ListsCapturedPacket o past (captured_packet bytes header) before lines one
    → past' ≡ requests_after_packet past bytes
    → DiagnosesPacket front' number (captured_packet bytes header) before' said
    → IsListed o past (captured_packet bytes' header) (record { lines = lines; whole = one })
    × (past' ≡ requests_after_packet past bytes')
    × DiagnosesPacket front number (captured_packet bytes' header) [] said
told_of_packet o front front' past past' number bytes bytes' header before before' lines said one
    same empty empty' fronts listed next diagnosed = (
      subst (λ (b : List ℕ). ListsCapturedPacket o past (captured_packet b header) [] lines one)
          same
          (subst (λ (t : List ℕ). ListsCapturedPacket o past (captured_packet bytes header) t
          lines one) empty listed),
      next ∙ ap (requests_after_packet past) same,
      subst (λ (b : List ℕ). DiagnosesPacket front number (captured_packet b header) [] said) same
          (subst (λ (t : List ℕ). DiagnosesPacket front number (captured_packet bytes header) t
          said) empty'
          (subst (λ (f : List ℕ). DiagnosesPacket f number (captured_packet bytes header) before'
          said) fronts diagnosed)),
    )

-- One more packet was listed, and its diagnostics were reported. In the proof below both would be
-- computed with the facts of the code, which takes longer.
one_more_packet : (o : Options) (front : List ℕ) (start : CaptureState)
    (a b c x y z : Option (List ℕ)) (s s' : CaptureState) (more lines added : List ℕ)
    (p : CapturedPacket) (past past' : PastRequests) (one whole whole' : Bool) (number : ℕ)
    (f g h : Type 0) (on on' on'' : Bool) (held held' held'' : Option (List ℕ))
    → (so_far : Progress o front start a b x y s past whole number)
    → ReportsMore held f on held' g on' so_far.diagnostics
    → ReportsMore held' g on' held'' h on'' added
    → ReadsPacket s more p s' → past' ≡ requests_after_packet past p.bytes
    → IsListed o past p (record { lines = lines; whole = one })
    → DiagnosesPacket front number p [] added → Consumes b c more → Appends y z lines
    → ((whole ≡ true) × (whole' ≡ one)) ⊎ ((whole ≡ false) × (whole' ≡ whole))
    → (after : Progress o front start a c x z s' past' whole' (number + 1))
    × ReportsMore held f on held'' h on'' after.diagnostics
one_more_packet o front start a b c x y z s s' more lines added p past past' one whole whole'
    number f g h on on' on'' held held' held'' so_far reported now is next listed diagnosed
    read appended (inl (is_whole, same)) = rw same (
      progress_continues_complete o front start a b c x y z s s' more lines added p past past'
          one whole number is_whole so_far is next listed diagnosed read appended,
      reports_then held held' held'' f g h on on' on'' so_far.diagnostics added reported now,
    )
one_more_packet o front start a b c x y z s s' more lines added p past past' one whole whole'
    number f g h on on' on'' held held' held'' so_far reported now is next listed diagnosed
    read appended (inr (is_part, same)) = rw same (
      progress_continues_incomplete o front start a b c x y z s s' more lines added p past past'
          one whole number is_part so_far is next listed diagnosed read appended,
      reports_then held held' held'' f g h on on' on'' so_far.diagnostics added reported now,
    )

pub packets-init : goal.packets-init
packets-init g c = record {
  listed = rw c.new-requests.ensures (progress_begins _ _ (state_of _) _ _);
  reported = reports_nothing _ _ _;
  front = refl;
}

pub packets-preserved : goal.packets-preserved
packets-preserved g c =
    let inv = c.packets.invariant in
    let read = c.in_ok-header.ensures.read in
    let packet = c.read_packet.new.packet.items in
    let header = c.in-Some.header in
    let past = (past_requests c.packets.requests) in
    let now_past = (past_requests c.list_packet.new.requests) in
    let lines = c.list_packet.new.written.lines.items in
    let said = c.list_packet.new.written.diagnostics.items in
    let told = told_of_packet c.args.options c.args.front.now c.packets.written.front.now past
    now_past c.packets.number c.as_slice-bytes.result.now packet header _ _ lines said
    c.in_ok-is_listed.is_listed c.as_slice-bytes.ensures.value c.clear.ensures.items
    c.clear-in-packets.ensures.items inv.front c.in_ok-is_listed.ensures.lists
    c.in_ok-is_listed.ensures.requested c.in_ok-is_listed.ensures.diagnosed in
    let both = one_more_packet c.args.options c.args.front.now (state_of c.in_ok-reader.reader)
    (g.R.Source.left c.read_header.new.input) (g.R.Source.left c.packets.input)
    (g.R.Source.left c.read_packet.new.input) (g.W.Sink.held c.send.new.output)
    (g.W.Sink.held c.packets.output) (g.W.Sink.held c.send-in-packets.new.output)
    (state_of c.packets.reader) (state_of c.read_packet.new.reader) read.0 lines said
    (captured_packet packet header) past now_past c.in_ok-is_listed.is_listed
    c.packets.is_whole c.if-is_whole.is_whole c.packets.number _ _ _ _ _ _ _ _ _
    inv.listed inv.reported (rw c.as_slice.ensures.value at c.report.ensures)
    (of_some _ _ _ _ c.in-Some.is read.2) told.1 told.0 told.2 read.1
    (rw c.as_slice-in-packets.ensures.value at c.in_ok-send-2.ensures.written)
    (elim c.if-is_whole.branch [
      | then-is_whole w ↦ inl (w.if-is_whole.true, w.is_whole-is)
      | else-is_whole w ↦ inr (w.if-is_whole.false, w.is_whole-is)
    ]) in
    record {
      listed = both.0;
      reported = both.1;
      front = rw c.in_ok-is_listed.ensures.front inv.front;
    }

pub returns-in_default-clause-ended : goal.returns-in_default-clause-ended
returns-in_default-clause-ended g c =
    let last = c.in_ok-header.ensures.read in
    let end = none_read _ _ _ c.in_default.not-Some last.2 in
    let inv = c.packets.invariant in record {
      bytes = c.in_ok-reader.ensures.read.0 ++ inv.listed.records;
      more = last.0;
      lines = flat_map lines_of_packet inv.listed.listings;
      diagnostics = inv.listed.diagnostics;
      table = table_of _ _ (state_of c.in_ok-reader.reader) c.in_ok-reader.ensures.read.0
          c.in_ok-reader.ensures.read.1 _ _ _ _ _ _ _ _ inv.listed;
      no_packet = end.1;
      read = Consumes-trans _ _ _ _ _
          (Consumes-trans _ _ _ _ _ c.in_ok-reader.ensures.read.2 inv.listed.read) last.1;
      ended = end.0;
      appended = Appends-trans _ _ _ _ _ c.in_ok-send.ensures.written
          (Appends-kept _ _ _ _ inv.listed.appended c.in_ok-flush.ensures.bytes);
      reported = inv.reported;
    }

pub returns-in_err-reader-clause-ended : goal.returns-in_err-reader-clause-ended
returns-in_err-reader-clause-ended g c =
    let p = err_from_is_err_and c.from_residual.result c.from_residual.ensures.1 in
    rw (p.1, p.2) (fails_at_header _ _ _ _ _ _ (ReportsMore _ _ _ _ _ _) _ _ (reports_nothing _ _ _)
    c.in_err-reader.ensures.stopped)

pub returns-in_err-send-clause-ended : goal.returns-in_err-send-clause-ended
returns-in_err-send-clause-ended g c =
    let p = err_from_is_err_and c.from_residual-in_err-send.result
    c.from_residual-in_err-send.ensures.1 in
    let (failed, sent, rest, split, appended) = c.in_err-send.ensures.stopped in
    let (header, is, read) = c.in_ok-reader.ensures.read in
    rw (p.1, p.2) (fails_at_heading _ _ _ header is _ _ _ _ _
    (ReportsMore _ _ _ _ _ _) (reports_nothing _ _ _) read sent rest split appended)

pub returns-in_err-header-clause-ended : goal.returns-in_err-header-clause-ended
returns-in_err-header-clause-ended g c =
    let p = err_from_is_err_and c.from_residual-in_err-header.result
    c.from_residual-in_err-header.ensures.1 in
    let (header, is, read) = c.in_ok-reader.ensures.read in
    let inv = c.packets.invariant in
    rw (p.1, p.2) (fails_at_packet _ _ _ header is _ _ _ _ _ _ _ _ _ _ _ inv.listed read
    c.in_ok-send.ensures.written (ReportsMore _ _ _ _ _ _) inv.reported _ _ _
    c.in_err-header.ensures.stopped)

pub returns-in_err-header-clause-cause : goal.returns-in_err-header-clause-cause
returns-in_err-header-clause-cause g c =
    let p = err_from_is_err_and c.from_residual-in_err-header.result
    c.from_residual-in_err-header.ensures.1 in
    rw (p.1, p.2) (no_write _ _ _ _ c.in_err-header.ensures.stopped.1)

pub returns-in_err-flush-clause-ended : goal.returns-in_err-flush-clause-ended
returns-in_err-flush-clause-ended g c =
    let p = err_from_is_err_and c.from_residual-in_err-flush.result
    c.from_residual-in_err-flush.ensures.1 in
    let (header, is, read) = c.in_ok-reader.ensures.read in
    let inv = c.packets.invariant in
    let last = c.in_ok-header.ensures.read in
    let end = none_read _ _ _ c.in_default.not-Some last.2 in
    rw (p.1, p.2) (fails_at_flush _ _ _ header is _ _ _ _ _ _ _ _ _ _ _ inv.listed read
    c.in_ok-send.ensures.written (ReportsMore _ _ _ _ _ _) inv.reported _ _
    last.0 end.1 last.1 c.in_err-flush.ensures.bytes)

pub returns-in_err-is_listed-clause-ended : goal.returns-in_err-is_listed-clause-ended
returns-in_err-is_listed-clause-ended g c =
    let p = err_from_is_err_and c.from_residual-in_err-is_listed.result
    c.from_residual-in_err-is_listed.ensures.1 in
    let (header, is, read) = c.in_ok-reader.ensures.read in
    let inv = c.packets.invariant in
    let got = rw c.in-Some.is at c.in_ok-header.ensures.read in
    rw p.1 (fails_at_memory _ _ _ header is _ _ _ _ _ _ _ _ _ _ _ inv.listed read
    c.in_ok-send.ensures.written (ReportsMore _ _ _ _ _ _) inv.reported _ _ _ got.0 _
    _ p.2 got.2 got.1)

pub returns-in_err-send-2-clause-ended : goal.returns-in_err-send-2-clause-ended
returns-in_err-send-2-clause-ended g c =
    let p = err_from_is_err_and c.from_residual-in_err-send-2.result
    c.from_residual-in_err-send-2.ensures.1 in
    let (header, is, read) = c.in_ok-reader.ensures.read in
    let inv = c.packets.invariant in
    let got = c.in_ok-header.ensures.read in
    let (listed, next, diagnosed) = told_of_packet c.args.options c.args.front.now
    c.packets.written.front.now (past_requests c.packets.requests)
    (past_requests c.list_packet.new.requests) c.packets.number c.as_slice-bytes.result.now
    c.read_packet.new.packet.items c.in-Some.header _ _ c.list_packet.new.written.lines.items
    c.list_packet.new.written.diagnostics.items c.in_ok-is_listed.is_listed
    c.as_slice-bytes.ensures.value c.clear.ensures.items c.clear-in-packets.ensures.items inv.front
    c.in_ok-is_listed.ensures.lists c.in_ok-is_listed.ensures.requested
    c.in_ok-is_listed.ensures.diagnosed in
    let reported = reports_then _ _ _ _ _ _ _ _ _ _ _ inv.reported
    (rw c.as_slice.ensures.value at c.report.ensures) in
    let (failed, sent, rest, split, appended) = c.in_err-send-2.ensures.stopped in
    rw (p.1, p.2) (fails_at_lines _ _ _ header is _ _ _ _ _ _ _ _ _ _ _ inv.listed read
    c.in_ok-send.ensures.written (ReportsMore _ _ _ _ _ _) _ _ got.0 _ _ _ _ _ _ reported
    (of_some _ _ _ _ c.in-Some.is got.2) next listed diagnosed got.1 sent rest
    (sym c.as_slice-in-packets.ensures.value ∙ split)
    appended)

pub returns-clause-ended : goal.returns-clause-ended
returns-clause-ended g c =
    let (header, is, read) = c.in_ok-reader.ensures.read in
    let inv = c.packets.invariant in
    fails_past_numbers _ _ _ header is _ _ _ _ _ _ _ _ _ _ _ inv.listed read
    c.in_ok-send.ensures.written (ReportsMore _ _ _ _ _ _) inv.reported _ (omega arith)

pub returns-in_err-is_listed-clause-cause : goal.returns-in_err-is_listed-clause-cause
returns-in_err-is_listed-clause-cause g c =
    let p = err_from_is_err_and c.from_residual-in_err-is_listed.result
    c.from_residual-in_err-is_listed.ensures.1 in
    rw p.1 (no_memory _ _ p.2)

pub returns-in_err-send-2-clause-cause : goal.returns-in_err-send-2-clause-cause
returns-in_err-send-2-clause-cause g c =
    let p = err_from_is_err_and c.from_residual-in_err-send-2.result
    c.from_residual-in_err-send-2.ensures.1 in
    rw p.1 (write_cause _ _ _ p.2 c.in_err-send-2.ensures.stopped.0)

pub returns-in_err-flush-clause-cause : goal.returns-in_err-flush-clause-cause
returns-in_err-flush-clause-cause g c =
    let p = err_from_is_err_and c.from_residual-in_err-flush.result
    c.from_residual-in_err-flush.ensures.1 in
    rw p.1 (write_cause _ _ _ p.2 c.in_err-flush.ensures.cause)
