use Rattle.std.proofs.Common.{refl}
use Rattle.std.proofs.lemmas.Iterator.{items_from_drains}
use Rattle.std.proofs.lemmas.Iterator.Consumers.{YieldsList-from_first}
use Rattle.sock_diag_any.specs.AnyItems.{item_model, items_left}
use Rattle.sock_diag_any.proofs.laws.complete_iteration.Goals as goal

pub returns : goal.returns
returns c nlas given (end, (last, yields, ended)) =
    items_from_drains given (last, yields, λ done. (end, ended))
    (YieldsList-from_first item_model items_left (items_left nlas) refl)
