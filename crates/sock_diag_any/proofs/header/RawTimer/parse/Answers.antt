use Rattle.std.proofs.Common.{refl}
use Rattle.std.proofs.lemmas.List.{take_rest}
use Rattle.sock_diag_any.proofs.header.RawTimer.parse.Goals as goal

pub returns : goal.returns
returns c = rw (c.read_u32.ensures, take_rest c.args.payload.now 52) refl
