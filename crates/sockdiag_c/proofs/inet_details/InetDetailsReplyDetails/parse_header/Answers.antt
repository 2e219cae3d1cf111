use Rattle.std.proofs.Common.{arith}
use Rattle.std.proofs.lemmas.List.{take_rest}
use Rattle.sockdiag_c.proofs.inet_details.InetDetailsReplyDetails.parse_header.Goals as goal

pub returns-clause-header : goal.returns-clause-header
returns-clause-header c =
    grind (arith, c.from_prefix.ensures.value, c.inet_header-details.ensures)

pub returns-clause-rest : goal.returns-clause-rest
returns-clause-rest c = take_rest c.args.payload.now 72
