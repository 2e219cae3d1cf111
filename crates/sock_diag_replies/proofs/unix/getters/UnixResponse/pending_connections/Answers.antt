use Rattle.std.proofs.Common.{option_copied, refl, rules, tests}
use Rattle.sock_diag_replies.proofs.FirstFound.{first_owned}
use Rattle.sock_diag_replies.proofs.unix.getters.UnixResponse.pending_connections.Goals as goal

pub returns : goal.returns
returns c = first_owned 3 option_copied refl (λ y. refl) c.args.self.now.nlas.items (cc)
    (λ x o q k. search (rules, tests)) _ c.find_map.ensures.runs
