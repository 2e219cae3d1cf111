use Rattle.std.proofs.Common.{◌≡◌, ◌≤◌, ◌-◌, drop, take}
use Rattle.sock_diag_filters.specs.Parsed.{outcome}
use Rattle.sock_diag_filters.specs.Readers.{state_of}
use Rattle.sock_diag_filters.specs.Reading.{initial}
use Rattle.sock_diag_filters.specs.Words.{placed_words, words_from}
use Rattle.sock_diag_filters.proofs.text.parsed.ParsedFilter.parse.Given as goal

-- the words of the remaining text lead to the same as the words of the text
abbrev pub invariant-loop-index : goal.invariant-loop-index
invariant-loop-index l = record {
  same : outcome (state_of l.reader)
      (words_from l.start (take (l.index - l.start) (drop l.start l.text)) (drop l.index l.text))
      ≡ outcome initial (placed_words l.text);
  bound : l.start ≤ l.index;
}
