use Rattle.std.proofs.Common.{◌≡◌, ◌≤◌, drop}
use Rattle.sock_diag_filters.specs.Numbers.{with_digits}
use Rattle.sock_diag_filters.proofs.text.numbers.digits_in.Given as goal

-- the number so far with the remaining digits is the number of all digits
abbrev pub invariant-loop-digit : goal.invariant-loop-digit
invariant-loop-digit l = record {
  same : with_digits l.radix l.most l.number (drop l.digit-index l.digits)
      ≡ with_digits l.radix l.most 0 l.digits;
  bound : l.number ≤ l.most;
}
