use Rattle.std.proofs.Common.{rules, ◌≡◌, length, sym, ap, ◌∙◌, arith}
use Rattle.std.specs.List.{flat_map}
use Rattle.byteorder.specs.Endian.{big_bytes}
use Rattle.netlink_core.specs.Table.{first_numbers}
use Rattle.netlink_core.proofs.FieldReads.{first_numbers_are_all}
use Rattle.sock_diag_extras.proofs.stored_address.StoredAddressAttributeRecord.write_fields.Goals as
    goal

pub returns : goal.returns
returns c =
    let value = c.args.self.now in
    let front_long : length value.front ≡ 4 = omega arith in
    let segments_long : length value.segments ≡ 8 = omega arith in
    let rest_long : length value.rest ≡ 100 = omega arith in
    let front : c.copy_from_slice.new.self ≡ first_numbers 4 value.front =
    c.copy_from_slice.ensures.after ∙ sym (first_numbers_are_all 4 value.front front_long) in
    let segments : flat_map (big_bytes 2) value.segments
    ≡ flat_map (big_bytes 2) (first_numbers 8 value.segments) =
    ap (flat_map (big_bytes 2)) (sym (first_numbers_are_all 8 value.segments segments_long)) in
    let rest : c.copy_from_slice-2.new.self ≡ first_numbers 100 value.rest =
    c.copy_from_slice-2.ensures.after ∙ sym (first_numbers_are_all 100 value.rest rest_long) in
    search rules
