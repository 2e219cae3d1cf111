use Rattle.std.proofs.Common.{append_assoc, arith}
use Rattle.sslist_texts.proofs.HexDigits.{hex_digits_of}
use Rattle.sslist_texts.proofs.cells.+push_hex.Goals as goal

pub returns : goal.returns
returns t c =
    let digits = hex_digits_of c.args.number (omega (arith, c.if-number-lt16.false))
    (omega (arith, c.ranges.number)) in
    rw (
      c.in_ok-push-2.ensures.items,
      c.in_ok-push_hex.ensures,
      c.hex_digit-2.ensures,
      append_assoc,
      digits,
    )
