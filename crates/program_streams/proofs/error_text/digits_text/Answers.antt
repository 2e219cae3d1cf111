use Rattle.byteorder.specs.Endian.{big_bytes}
use Rattle.program_streams.proofs.HexText.{digits_are_utf8}
use Rattle.program_streams.proofs.error_text.digits_text.Goals as goal

pub unreachable-requires : goal.unreachable-requires
unreachable-requires c =
    c.in-Err.ensures.cases.0
    (digits_are_utf8 (big_bytes 4 c.args._number) c.args.digits.now c.requires)
