use Rattle.std.proofs.Common.{rules, ◌≡◌, length, sym, ◌∙◌, arith}
use Rattle.netlink_core.specs.Table.{first_numbers}
use Rattle.netlink_core.proofs.FieldReads.{first_numbers_are_all}
use Rattle.sock_diag_extras.proofs.md5_signature.Md5SignatureAttributeRecord.write_fields.Goals as
    goal

pub returns : goal.returns
returns c =
    let value = c.args.self.now in
    let address_long : length value.address ≡ 16 = omega arith in
    let key_long : length value.key ≡ 80 = omega arith in
    let address : c.copy_from_slice-2.new.self ≡ first_numbers 16 value.address =
    c.copy_from_slice-2.ensures.after ∙ sym (first_numbers_are_all 16 value.address address_long) in
    let key : c.copy_from_slice-3.new.self ≡ first_numbers 80 value.key =
    c.copy_from_slice-3.ensures.after ∙ sym (first_numbers_are_all 80 value.key key_long) in
    search rules
