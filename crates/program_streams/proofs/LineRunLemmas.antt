-- What a run has written follows from what its steps wrote.
use Rattle.std.proofs.lemmas.Grind.{common_steps}
use Rattle.std.proofs.Common.{arith, ◌≡◌, ℕ, List, [], ◌++◌, length, take, Option, None, Some}
use Rattle.std.proofs.Common.{Result, map, Ok, Err, Bool, ◌&&◌, ◌∙◌, append_assoc, append-nil}
use Rattle.std.specs.Prelude.{IfSome, OnOk}
use Rattle.std.specs.List.{list_all}
use Rattle.std.specs.Io.KnownBytes.{Appends, Consumes, IsAtEnd}
use Rattle.std.proofs.KnownBytes.{Appends-kept, Appends-nil, Consumes-trans}
use Rattle.std.proofs.lemmas.List.Concat.{flat_map-append}
use Rattle.std.proofs.lemmas.List.Folds.{list_all-append, list_all-map}
use Rattle.std.proofs.Math.Seq.{take-append_seam}
use Rattle.program_streams.specs.Lines.{SplitsIntoLines, all_lines}
use Rattle.program_streams.specs.LineRun.{AnswersInput, RunStreams, answer_lines}
use Rattle.program_streams.specs.private.LineRun.{WritesPartOfText, all_answers_good}
use Rattle.program_streams.proofs.LinesLemmas.{SplitsIntoLines-append, SplitsIntoLines-one_way}
use Rattle.program_streams.specs.declared.lines.RunError.{RunError}
use Rattle.program_streams.specs.declared.lines.RunError.TheVariants.{Read, Write, Memory}

-- the streams of a run, by what was left to read and what had been written before and after it
abbrev pub streams_of : (left left' held held' : Option (List ℕ)) → RunStreams
streams_of left left' held held' = record {
  left_before = left;
  left_after = left';
  held_before = held;
  held_after = held';
}

-- the last line follows the complete lines
all_lines-append : (whole : List (List ℕ)) (rest : List ℕ) → all_lines whole rest
    ≡ whole ++ all_lines [] rest
all_lines-append whole rest =
    grind (arith, append-nil whole)

-- the answers to the complete lines come before the answer to the last line
pub answers_begin : (f : List ℕ → List ℕ) (whole : List (List ℕ)) (rest : List ℕ)
    → answer_lines f (all_lines whole rest)
    ≡ answer_lines f whole ++ answer_lines f (all_lines [] rest)
answers_begin f whole rest = rw (all_lines-append whole) (flat_map-append _ whole _)

pub good_answers_begin : (f : List ℕ → List ℕ) (good : List ℕ → Bool) (whole : List (List ℕ))
    (rest : List ℕ) → list_all good (map f (all_lines whole rest))
    ≡ (all_answers_good good f whole && all_answers_good good f (all_lines [] rest))
good_answers_begin f good whole rest =
    grind (arith, list_all-map, all_lines-append whole, list_all-append)

-- so far, a text with these complete lines and this rest was read, and these bytes were written
pub record ReadAndWritten (left left' held held' : Option (List ℕ)) (whole : List (List ℕ))
    (rest written : List ℕ) : Type 0 where
  pub text : List ℕ
  pub read : Consumes left left' text
  pub splits : SplitsIntoLines text whole rest
  pub appended : Appends held held' written

-- If so far these lines were read and these bytes were written, then:
module _ {r r' c c' : Option (List ℕ)} {whole : List (List ℕ)} {rest written : List ℕ}
    (up : ReadAndWritten r r' c c' whole rest written) where
  -- a read may return no bytes
  pub read_without_bytes : (r'' : Option (List ℕ)) → Consumes r' r'' []
      → ReadAndWritten r r'' c c' whole rest written
  read_without_bytes r'' none =
      grind (arith, append-nil)

  -- a read may return more bytes
  pub read_more_bytes : (r'' : Option (List ℕ)) (piece last : List ℕ) (next : List (List ℕ))
      → Consumes r' r'' piece → SplitsIntoLines (rest ++ piece) next last
      → ReadAndWritten r r'' c c' (whole ++ next) last written
  read_more_bytes r'' piece last next read splits = record {
    text = up.text ++ piece;
    read = Consumes-trans r r' r'' up.text piece up.read read;
    splits = SplitsIntoLines-append up.text piece whole next rest last up.splits splits;
    appended = up.appended;
  }

  -- more bytes may be written
  pub write_more_bytes : (c'' : Option (List ℕ)) (more all : List ℕ) → Appends c' c'' more
      → written ++ more ≡ all → ReadAndWritten r r' c c'' whole rest all
  write_more_bytes c'' more all wrote e =
      grind (arith, common_steps)

  -- a run that fails while it writes the next answers has written what `AnswersInput` requires
  pub run_failed : (f : List ℕ → List ℕ) (good : List ℕ → Bool) (n : ℕ) (c'' : Option (List ℕ))
      (text more : List ℕ) (e : RunError) → written ≡ answer_lines f (take n whole)
      → answer_lines f (all_lines whole rest) ≡ (written ++ text) ++ more
      → WritesPartOfText c' c'' text e → AnswersInput f (streams_of r r' c c'') good (Err e)
  run_failed f good n c'' text more Read first begins wrote = absurd wrote
  run_failed f good n c'' text more Memory first begins wrote =
      let none = Appends-kept c' c' c'' [] (Appends-nil c') wrote in
      let sent = write_more_bytes c'' [] _ none (append-nil _ ∙ first) in
      (whole, rest, _, sent.read, sent.splits, (n, sent.appended), tt)
  run_failed f good n c'' text more Write first begins (front, later, is, wrote) =
      let all = answer_lines f (all_lines whole rest) in
      let sent = write_more_bytes c'' front (take (length (written ++ front)) all) wrote
      (rw (begins, is, ← append_assoc, append_assoc, take-append_seam)) in
      (whole, rest, _, sent.read, sent.splits, (length (written ++ front), sent.appended), tt)

-- If each line has only one answer, then a run that succeeded has answered all lines of the whole
-- input, if this is known.
pub run_complete : (answers : List ℕ → List ℕ → Type 0) (good : List ℕ → Bool)
    (a : List ℕ → List ℕ)
    → ((f : List ℕ → List ℕ) → ((line : List ℕ) → answers line (f line)) → a ≡ f)
    → (r r' c c' : Option (List ℕ)) (result : Result Bool RunError) → OnOk result (IsAtEnd r')
    → AnswersInput a (streams_of r r' c c') good result
    → OnOk result (IfSome r (λ text. (f : List ℕ → List ℕ) (whole : List (List ℕ)) (rest : List ℕ)
    → ((line : List ℕ) → answers line (f line))
    → SplitsIntoLines text whole rest → Appends c c' (answer_lines f (all_lines whole rest))))
run_complete answers good a only r r' c c' (Err e) ended p = tt
run_complete answers good a only None r' c c' (Ok is_good) ended p = tt
run_complete answers good a only (Some text) None c c' (Ok is_good) ended p = absurd p.3
run_complete answers good a only (Some text) (Some left) c c' (Ok is_good) ended
    (lines, last, all, read, parts, added, judged) = λ f whole rest right splits.
    let same : text ≡ all = read ∙ rw ended (append-nil all) in
    let one = SplitsIntoLines-one_way text lines whole last rest (rw (← same) at parts) splits in
    rw (← only f right, ← one.0, ← one.1) added
