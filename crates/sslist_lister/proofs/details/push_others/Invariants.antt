use Rattle.std.proofs.Common.{◌≡◌, ◌++◌, drop, flat_map}
use Rattle.sslist_lister.specs.Collected.{other_model}
use Rattle.sslist_lister.specs.Details.{other_detail}
use Rattle.sslist_lister.proofs.details.push_others.Given as goal

-- the text so far, followed by the remaining attributes, is the text at the end
abbrev pub invariant-loop-nla : goal.invariant-loop-nla
invariant-loop-nla l =
    l.text.items ++ flat_map (λ other. other_detail l.options l.sockets (other_model other))
    (drop l.nla-index l.others)
    ≡ l.fn.text.items ++ flat_map (λ other. other_detail l.options l.sockets (other_model other))
    l.others
