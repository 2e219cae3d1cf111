use Rattle.std.proofs.Common.{◌≡◌, ◌+◌, ◌-◌, ◌%◌, ◌≤◌, length, arith}
use Rattle.std.proofs.lemmas.List.{take_rest}
use Rattle.netlink_core.specs.laws.Prefix.{has_attribute_prefix}
use Rattle.netlink_core.proofs.attribute.NlaBuffer.new.Goals as goal

pub returns : goal.returns
returns c =
    let bytes = c.args.bytes.now in
    let nla_len = c.read_u16-length.result in
    let low : 4 ≤ nla_len = grind arith in
    let high : nla_len ≤ length bytes = grind arith in
    let len : (nla_len + 18446744073709551612) % 18446744073709551616 ≡ nla_len - 4 = grind arith in
    rw (len, take_rest bytes 4) (has_attribute_prefix bytes nla_len c.read_u16.result (grind arith)
    (grind arith) (grind arith) low high)
