use Rattle.std.proofs.Common.{◌≡◌, ◌++◌}
use Rattle.sock_diag_attributes.specs.NumbersModel.{numbers_left, numbers_view_model}
use Rattle.sslist_lister.proofs.attributes.numbers_in.Given as goal

-- the numbers so far, followed by the remaining ones, are all numbers
abbrev pub invariant-loop-number : goal.invariant-loop-number
invariant-loop-number l =
    l.numbers.items ++ numbers_left l.number-iterator ≡ numbers_view_model l.view
