use Rattle.std.proofs.Common.{map}
use Rattle.sock_diag_any.specs.AnyItems.{items_left}
use Rattle.sslist_lister.specs.Collected.{other_model}
use Rattle.sslist_lister.proofs.Slots.{all_is_found, error_is_found}
use Rattle.sslist_lister.proofs.collected.Attributes.collect.Goals as goal

pub returns-clause-summary : goal.returns-clause-summary
returns-clause-summary c =
    let (same, long, each, later, error) = c.loop-item.invariant in
    rw same (all_is_found c.args.self.now.sockets c.args.bytes.now
    (items_left c.loop-item.item-iterator) c.loop-item.self.first.slots c.loop-item.self.end
    (map other_model c.loop-item.self.others.items) c.in-None.ensures.steps.0
    (long, each, later, error))

pub returns-clause-end : goal.returns-clause-end
returns-clause-end c =
    let (same, long, each, later, error) = c.loop-item.invariant in
    error_is_found c.args.self.now.sockets c.args.bytes.now
    (items_left c.loop-item.item-iterator) c.loop-item.self.end c.in-None.ensures.steps.0 error
