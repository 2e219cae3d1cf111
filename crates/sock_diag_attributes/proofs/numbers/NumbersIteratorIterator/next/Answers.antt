use Rattle.std.proofs.Common.{ℕ, ◌-◌, ◌<◌, ◌≤◌, List, length, take, drop, arith}
use Rattle.std.proofs.lemmas.List.{take_rest, length-drop}
use Rattle.netlink_core.proofs.TableLaws.{AreBytes-drop}
use Rattle.sock_diag_attributes.specs.Numbers.{numbers_in}
use Rattle.sock_diag_attributes.specs.laws.Number.{numbers_in_none, numbers_in_first}
use Rattle.sock_diag_attributes.proofs.numbers.NumbersIteratorIterator.next.Goals as goal

-- The bytes after the first number contain fewer numbers.
fewer_after_first : (bytes : List ℕ) → 4 ≤ length bytes
    → length (numbers_in (take (length bytes - 4) (drop 4 bytes))) < length (numbers_in bytes)
fewer_after_first bytes long = rw (take_rest bytes 4, numbers_in_first bytes long) (omega arith)

pub invariant_of-self : goal.invariant_of-self
invariant_of-self c =
    let bytes = c.args.self.now.remaining.bytes.now in
    rw (take_rest bytes 4) (record {
      whole = omega (arith, length-drop 4 bytes, c.args.self.now.remaining.whole);
      in_range = AreBytes-drop 4 bytes c.args.self.now.remaining.in_range;
    })

pub returns-then-bytes-lt4-clause-steps : goal.returns-then-bytes-lt4-clause-steps
returns-then-bytes-lt4-clause-steps c =
    let none = numbers_in_none c.args.self.now.remaining.bytes.now c.if-bytes-lt4.true in
    (none, none)

pub returns-clause-steps : goal.returns-clause-steps
returns-clause-steps c =
    let bytes = c.args.self.now.remaining.bytes.now in
    rw (take_rest bytes 4, c.read_u32.ensures) (numbers_in_first bytes c.if-bytes-lt4.false)

pub returns-clause-goes : goal.returns-clause-goes
returns-clause-goes c = record {
  on = λ _. (tt, tt, fewer_after_first c.args.self.now.remaining.bytes.now c.if-bytes-lt4.false);
  keeps = tt;
  rests = λ _. tt;
}
