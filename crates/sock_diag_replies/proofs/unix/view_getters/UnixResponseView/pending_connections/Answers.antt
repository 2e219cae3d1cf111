use Rattle.std.proofs.Common.{option_map, refl, rules, tests}
use Rattle.sock_diag_attributes.specs.NumbersModel.{numbers_view_model}
use Rattle.sock_diag_replies.proofs.FirstFound.{equal_values, first_in_view}
use Rattle.sock_diag_replies.proofs.unix.view_getters.UnixResponseView.pending_connections.Goals as
    goal

pub returns : goal.returns
returns c =
    let values = equal_values c.attributes.ensures in
    first_in_view 3 (option_map numbers_view_model) refl (λ y. refl) _ values
    (λ x o q k. search (rules, tests)) _ c.find_map.ensures.runs
