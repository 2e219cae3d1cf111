use Rattle.std.proofs.Common.{option_map, option_copied, vec_items, refl, rules, tests}
use Rattle.sock_diag_attributes.specs.NameModel.{socket_name_model}
use Rattle.sock_diag_replies.proofs.FirstFound.{first_owned}
use Rattle.sock_diag_replies.proofs.unix.getters.UnixResponse.name.Goals as goal

pub returns : goal.returns
returns c = first_owned 0 (λ o. option_map (socket_name_model vec_items) (option_copied o)) refl
    (λ y. refl) c.args.self.now.nlas.items (cc) (λ x o q k. search (rules, tests)) _
    c.find_map.ensures.runs
