use Rattle.std.proofs.Common.{◌≡◌, ℕ, List, [], ◌∷◌, false, Option, Some, None}
use Rattle.std.specs.Prelude.{MatchOption}
use Rattle.std.specs.List.{slice_split}
use Rattle.std.proofs.lemmas.List.Elements.{All-nil}
use Rattle.std.proofs.lemmas.List.Splits.{slice_split_none}
use Rattle.memchr.specs.Find.{IsFirstByte, is_byte}
use Rattle.program_streams.proofs.LinesLemmas.{split_before_line_feed, split_at_first}
use Rattle.program_streams.proofs.LinesLemmas.{no_line_feed_before_first}
use Rattle.sock_diag_lines.specs.HexField.{is_space}
use Rattle.sock_diag_lines.specs.private.Text.{IsFirstSpace}
use Rattle.sock_diag_lines.proofs.fields.find_space.Goals as goal

by_place : (line : List ℕ) (found : Option ℕ) → IsFirstByte (is_byte 32) line found
    → MatchOption found (slice_split is_space line ≡ line ∷ []) (IsFirstSpace line)
by_place line None h = slice_split_none is_space line
    (no_line_feed_before_first 32 [] line (All-nil (λ b. is_byte 32 b ≡ false)) h)
by_place line (Some i) h =
    let none = All-nil (λ b. is_byte 32 b ≡ false) in
    record {
      within = h.0.high;
      cut = split_before_line_feed 32 [] line none i h;
      fields = split_at_first 32 [] line none i h;
    }

pub returns : goal.returns
returns c = by_place c.args.line.now c.memchr.result c.memchr.ensures
