use Rattle.std.proofs.Common.{refl, rules, tests}
use Rattle.sock_diag_replies.proofs.FirstFound.{first_owned}
use Rattle.sock_diag_replies.proofs.unix.getters.UnixResponse.peer.Goals as goal

pub returns : goal.returns
returns c = first_owned 2 (λ o. o) refl (λ y. refl) c.args.self.now.nlas.items (cc)
    (λ x o q k. search (rules, tests)) _ c.find_map.ensures.runs
