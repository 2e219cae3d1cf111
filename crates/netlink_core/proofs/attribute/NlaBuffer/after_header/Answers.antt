use Rattle.std.proofs.Common.{arith, refl}
use Rattle.netlink_core.proofs.HeaderFields.{header_fields, attribute_of_fields}
use Rattle.netlink_core.proofs.attribute.NlaBuffer.after_header.Goals as goal

pub length_error-requires-clause-wrong : goal.length_error-requires-clause-wrong
length_error-requires-clause-wrong c =
    grind (arith, header_fields c.args.bytes.now c.read_u32-header.result)

pub invariant_of-result : goal.invariant_of-result
invariant_of-result c =
    let attribute = attribute_of_fields c.args.bytes.now c.read_u32-header.result _ (grind arith)
    (grind arith) (grind arith) (grind arith) refl (grind arith) in
    record { word_fits = attribute.2.0; value_fits = attribute.2.1 }

pub returns : goal.returns
returns c =
    attribute_of_fields c.args.bytes.now c.read_u32-header.result _ (grind arith) (grind arith)
    (grind arith) (grind arith) refl (grind arith)
