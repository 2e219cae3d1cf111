use Rattle.std.proofs.Common.{refl}
use Rattle.std.proofs.lemmas.List.{take_rest}
use Rattle.sock_diag_extras.proofs.membership.PacketMembershipAttributeRecord.from_fields.Goals as
    goal

pub returns : goal.returns
returns c =
    let bytes = c.args.bytes.now in
    rw (
      c.read_u32.ensures,
      c.read_u32-2.ensures,
      c.read_u16.ensures,
      c.read_u16-2.ensures,
      take_rest bytes 4,
      take_rest bytes 8,
      take_rest bytes 10,
      c.array_at.ensures,
    ) refl
