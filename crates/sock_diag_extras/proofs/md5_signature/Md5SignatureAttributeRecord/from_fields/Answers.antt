use Rattle.std.proofs.Common.{refl}
use Rattle.std.proofs.lemmas.List.{take_rest}
use Rattle.sock_diag_extras.proofs.md5_signature.Md5SignatureAttributeRecord.from_fields.Goals as
    goal

pub returns : goal.returns
returns c =
    rw (
      c.read_u16.ensures,
      take_rest c.args.bytes.now 2,
      c.array_at.ensures,
      c.array_at-2.ensures,
    ) refl
