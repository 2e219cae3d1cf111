use Rattle.std.proofs.Common.{ℕ, List, Bor, option_map, refl, rules, tests}
use Rattle.sock_diag_attributes.specs.NameModel.{socket_name_model}
use Rattle.sock_diag_replies.proofs.FirstFound.{equal_values, first_in_view}
use Rattle.sock_diag_replies.proofs.unix.view_getters.UnixResponseView.name.Goals as goal

pub returns : goal.returns
returns c =
    let values = equal_values c.attributes.ensures in
    first_in_view 0 (option_map (socket_name_model (λ (b : Bor (List ℕ)). b.now))) refl
    (λ y. refl) _ values (λ x o q k. search (rules, tests)) _ c.find_map.ensures.runs
