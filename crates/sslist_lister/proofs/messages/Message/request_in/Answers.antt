use Rattle.std.proofs.Common.{arith}
use Rattle.sslist_lister.proofs.MessageWalk.{request_found}
use Rattle.sslist_lister.proofs.messages.Message.request_in.Goals as goal

pub returns-then-header-eq0 : goal.returns-then-header-eq0
returns-then-header-eq0 c =
    grind (arith, request_found c.args.bytes.now c.in-Ok.header c.in-Ok.ensures)

pub returns : goal.returns
returns c =
    grind (arith, request_found c.args.bytes.now c.in-Ok.header c.in-Ok.ensures, c.new.ensures)
