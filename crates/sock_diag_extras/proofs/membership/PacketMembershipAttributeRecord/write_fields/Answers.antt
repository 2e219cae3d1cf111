use Rattle.std.proofs.Common.{rules, ◌≡◌, length, sym, ◌∙◌, arith}
use Rattle.netlink_core.specs.Table.{first_numbers}
use Rattle.netlink_core.proofs.FieldReads.{first_numbers_are_all}
use Rattle.sock_diag_extras.proofs.membership.PacketMembershipAttributeRecord.write_fields.Goals
    as goal

pub returns : goal.returns
returns c =
    let value = c.args.self.now in
    let long : length value.address ≡ 32 = omega arith in
    let address : c.copy_from_slice.new.self ≡ first_numbers 32 value.address =
    c.copy_from_slice.ensures.after ∙ sym (first_numbers_are_all 32 value.address long) in
    search rules

pub write_u32_into-requires : goal.write_u32_into-requires
write_u32_into-requires c = c.split_at_mut-words.ensures.front_len

pub write_u16_into-requires : goal.write_u16_into-requires
write_u16_into-requires c = c.split_at_mut-halves.ensures.front_len
