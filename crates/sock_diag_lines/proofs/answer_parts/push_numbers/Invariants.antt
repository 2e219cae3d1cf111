use Rattle.std.proofs.Common.{◌≡◌, ◌∷◌, ◌++◌, drop, decimal}
use Rattle.std.specs.List.{flat_map}
use Rattle.sock_diag_attributes.specs.NumbersModel.{numbers_view_model}
use Rattle.sock_diag_lines.specs.ViewLine.{comma_list}
use Rattle.sock_diag_lines.proofs.answer_parts.push_numbers.Given as goal

-- the text and the numbers from this index on are the whole list
abbrev pub invariant-rest : goal.invariant-rest
invariant-rest l =
    l.text.items ++ flat_map (λ n. 44 ∷ decimal n) (drop l.index (numbers_view_model l.numbers))
    ≡ l.fn.text.items ++ comma_list (numbers_view_model l.numbers)
