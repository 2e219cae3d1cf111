use Rattle.std.proofs.Common.{arith}
use Rattle.std.proofs.lemmas.List.{take_rest}
use Rattle.sock_diag_replies.proofs.view.ReplyView.attribute_bytes.Goals as goal

pub returns-clause-clean : goal.returns-clause-clean
returns-clause-clean g c =
    grind (arith, take_rest, c.length.ensures, c.args.self.now.clean)
