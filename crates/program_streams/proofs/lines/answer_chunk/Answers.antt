use Rattle.std.proofs.Common.{◌+◌, [], ◌∷◌, ◌++◌, take, append_assoc, append-nil, arith}
use Rattle.std.proofs.lemmas.List.{length-drop, take_rest}
use Rattle.std.proofs.lemmas.List.Elements.{All-nil}
use Rattle.std.proofs.lemmas.List.Splits.{slice_split_none}
use Rattle.memchr.specs.Find.{is_byte}
use Rattle.program_streams.proofs.LinesLemmas.{split_at_first, no_line_feed_before_first}
use Rattle.std.proofs.lemmas.List.Concat.{flat_map-append}
use Rattle.std.proofs.lemmas.List.Folds.{list_all-append}
use Rattle.std.proofs.Math.Bool.{and-true}
use Rattle.program_streams.proofs.lines.answer_chunk.Goals as goal

pub lines-preserved : goal.lines-preserved
lines-preserved g c =
    let inv = c.lines.invariant in
    let line = c.lines.buffers.line.items in
    let rest = c.lines.rest.now in
    let n = c.in-Some.end in
    let cut = split_at_first 10 line rest inv.unended n c.in-Some.ensures in
    let (begun, added) = c.in_ok-is_line_good.ensures.added in
    record {
      whole = inv.whole ++ (line ++ take n rest) ∷ [];
      splits = rw (begun, take_rest rest (n + 1), inv.splits, cut, append_assoc);
      within = rw (take_rest rest (n + 1)) (omega (arith, inv.within, length-drop (n + 1) rest));
      unended = rw begun (All-nil _);
      added = rw (added, inv.added, flat_map-append) (simp (append_assoc, append-nil));
      judged = rw (inv.judged, c.in_ok-is_line_good.ensures.judged, list_all-append)
          (simp and-true);
    }

pub returns : goal.returns
returns g c =
    let inv = c.lines.invariant in
    let line = c.lines.buffers.line.items in
    let rest = c.lines.rest.now in
    let unended = no_line_feed_before_first 10 line rest inv.unended c.in_default.ensures in
    let items = c.in_ok-extend_from_slice.ensures.items in
    record {
      whole = inv.whole;
      splits = rw (items, inv.splits, slice_split_none (is_byte 10) (line ++ rest) unended);
      unended = rw items unended;
      added = inv.added;
      judged = inv.judged;
    }
