use Rattle.std.proofs.Common.{arith}
use Rattle.sock_diag_any.proofs.Framing.{nested_is_framed}
use Rattle.sock_diag_any.proofs.nla.parse_nested.Goals as goal

pub returns : goal.returns
returns c =
    nested_is_framed c.args.value.now (λ i. omega (arith, c.type_inv.value i)) c.parse.result
    c.parse.ensures.kept c.parse.ensures.error
