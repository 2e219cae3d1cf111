use Rattle.std.proofs.Common.{◌≡◌, false, refl, take, take_all, le_refl, length, ◌==◌, [], ◌++◌}
use Rattle.std.proofs.Common.{sym, ap, append-nil}
use Rattle.std.proofs.KnownBytes.{Appends-nil, Consumes-nil, Consumes-kept}
use Rattle.std.proofs.lemmas.List.Elements.{All-nil}
use Rattle.std.proofs.lemmas.List.Concat.{flat_map-append}
use Rattle.std.proofs.lemmas.List.Folds.{list_all-append}
use Rattle.std.proofs.Math.Seq.{take-append_seam}
use Rattle.std.proofs.lemmas.Result.{err_from_is_err_and}
use Rattle.program_streams.specs.LineRun.{answer_lines}
use Rattle.program_streams.specs.private.LineRun.{WritesPartOfText}
use Rattle.program_streams.specs.declared.lines.RunError.TheVariants.{Write}
use Rattle.program_streams.proofs.LinesLemmas.{every_text_splits}
use Rattle.program_streams.proofs.LineRunLemmas.{answers_begin, good_answers_begin, read_more_bytes}
use Rattle.program_streams.proofs.LineRunLemmas.{run_failed, read_without_bytes, write_more_bytes}
use Rattle.program_streams.proofs.lines.serve.Goals as goal

pub returns-in_err-count-clause-answered : goal.returns-in_err-count-clause-answered
returns-in_err-count-clause-answered g c =
    let r = c.from_residual in let p = err_from_is_err_and r.result r.ensures.1 in
    let none = Consumes-kept _ _ _ [] (Consumes-nil _) c.in_err-count.ensures.bytes in
    let up = read_without_bytes c.reads.invariant.up _ none in
    rw (p.1, p.2) (_, _, _, up.read, up.splits, up.appended, tt)

pub returns-in_err-is_last_good-clause-answered : goal.returns-in_err-is_last_good-clause-answered
returns-in_err-is_last_good-clause-answered g c =
    let r = c.from_residual-in_err-is_last_good in
    let p = err_from_is_err_and r.result r.ensures.1 in
    let inv = c.reads.invariant in
    let none = rw c.if-count-eq0.true at c.in_ok-count.ensures.bytes.0 in
    rw (p.1, p.2) (run_failed (read_without_bytes inv.up _ none) g.S.RunStart.answer
    g.A.LineAnswers.good
    (length inv.whole) _ _ [] _ (rw (take_all, le_refl))
    (rw append-nil (answers_begin _ inv.whole _)) c.in_err-is_last_good.ensures.written)

pub returns-then-count-eq0-clause-answered : goal.returns-then-count-eq0-clause-answered
returns-then-count-eq0-clause-answered g c =
    let inv = c.reads.invariant in
    let none = rw c.if-count-eq0.true at c.in_ok-count.ensures.bytes.0 in
    let up = write_more_bytes (read_without_bytes inv.up _ none) _ _ _
    c.in_ok-is_last_good.ensures.written
    (sym (answers_begin _ inv.whole _)) in
    let last = c.in_ok-is_last_good.ensures.judged in (
      _,
      _,
      _,
      up.read,
      up.splits,
      up.appended,
      rw (inv.judged, last)
          (sym (good_answers_begin _ _ inv.whole _)),
    )

pub returns-in_err-is_chunk_good-clause-answered : goal.returns-in_err-is_chunk_good-clause-answered
returns-in_err-is_chunk_good-clause-answered g c =
    let r = c.from_residual-in_err-is_chunk_good in
    let p = err_from_is_err_and r.result r.ensures.1 in
    let inv = c.reads.invariant in
    let line = c.reads.buffers.line.items in
    let s = every_text_splits (line ++ take c.in_ok-count.count c.read_prompt.new.chunk) in
    let read = read_more_bytes inv.up _ _ _ _ c.in_ok-count.ensures.bytes.0 s.splits in
    rw (p.1, p.2) (
      inv.whole ++ s.whole,
      s.rest,
      _,
      read.read,
      read.splits,
      (length inv.whole, rw take-append_seam read.appended),
      tt,
    )

pub returns-in_err-send-clause-answered : goal.returns-in_err-send-clause-answered
returns-in_err-send-clause-answered g c =
    let r = c.from_residual-in_err-send in let p = err_from_is_err_and r.result r.ensures.1 in
    let inv = c.reads.invariant in
    let chunk = c.in_ok-is_chunk_good.ensures in
    let added = rw inv.written at chunk.added in
    let (cause, front, more, split, appended) =
    rw (c.as_slice-in-reads.ensures.value, added) at c.in_err-send.ensures.stopped in
    let held = g.W.Sink.held c.send.new.output in
    let text = answer_lines g.S.RunStart.answer chunk.whole in
    let sent : WritesPartOfText (g.W.Sink.held c.reads.output) held text Write =
    (front, more, split, appended) in
    let begins = rw flat_map-append at (answers_begin g.S.RunStart.answer (inv.whole ++ chunk.whole)
    c.answer_chunk.new.buffers.line.items) in
    rw (p.1, p.2) (run_failed
    (read_more_bytes inv.up _ _ _ _ c.in_ok-count.ensures.bytes.0 chunk.splits) g.S.RunStart.answer
    g.A.LineAnswers.good (length inv.whole) held text _ Write
    (ap (answer_lines _) (sym (take-append_seam inv.whole _))) begins sent)

pub reads-preserved : goal.reads-preserved
reads-preserved g c =
    let inv = c.reads.invariant in
    let chunk = c.in_ok-is_chunk_good.ensures in
    let added = rw inv.written at chunk.added in
    let sent = rw (c.as_slice-in-reads.ensures.value, added) at c.in_ok-send.ensures.written
    in record {
      whole = inv.whole ++ chunk.whole;
      up = write_more_bytes (read_more_bytes inv.up _ _ _ _ c.in_ok-count.ensures.bytes.0
          chunk.splits) _ _ _ sent
          (sym (flat_map-append _ inv.whole _));
      judged = rw (inv.judged, chunk.judged) (sym (list_all-append _ inv.whole chunk.whole));
      unended = chunk.unended;
      written = c.clear_buffer.ensures.emptied;
      counted = c.in_ok-count.ensures.counted c.reads._reads_made inv.counted;
    }

pub reads-init : goal.reads-init
reads-init g c =
    let (left, held, counted) = c.requires.start in
    record {
      whole = [];
      up = record {
        text = [];
        read = rw left (Consumes-nil (g.R.PromptRead.left c.args.input.now));
        splits = rw c.new.ensures.items refl;
        appended = rw held (Appends-nil (g.W.Sink.held c.args.output.now));
      };
      judged = refl;
      unended = rw c.new.ensures.items (All-nil (λ b. (b == 10) ≡ false));
      written = c.new-3.ensures.items;
      counted = counted;
    }
