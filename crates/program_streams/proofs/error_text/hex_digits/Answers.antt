use Rattle.std.proofs.Common.{◌∙◌, append-nil, arith}
use Rattle.byteorder.specs.Endian.{big_bytes}
use Rattle.byteorder.specs.Numbers.{length-bytes_high_first}
use Rattle.program_streams.proofs.HexText.{written_if_ok}
use Rattle.program_streams.proofs.error_text.hex_digits.Goals as goal

pub returns : goal.returns
returns c =
    let bytes = c.write_u32.ensures ∙ append-nil (big_bytes 4 c.args.number) in
    let fits = c.encode_to_slice.ensures.fits.1
    (rw (c.as_slice.ensures, bytes) (omega (arith, length-bytes_high_first 4 c.args.number))) in
    rw (c.as_slice.ensures, bytes) at (written_if_ok _ _ fits c.encode_to_slice.ensures.written)
