-- The model of borrowed numbers and of their iterator: what contracts see of them.
use Rattle.std.specs.Prelude.{ℕ, List}
use Rattle.sock_diag_attributes.specs.declared.numbers.NumbersIterator.{NumbersIterator}
use Rattle.sock_diag_attributes.specs.declared.numbers.NumbersView.{NumbersView}
use Rattle.sock_diag_attributes.specs.Numbers.{numbers_in}

-- `numbers_view_model numbers`: the model of borrowed numbers: the numbers in the bytes that the
-- view borrows, four bytes each, little-endian
abbrev pub numbers_view_model : NumbersView → List ℕ
numbers_view_model numbers = numbers_in numbers.bytes.now

-- `numbers_left iterator`: the numbers that the iterator has not yielded yet, in order
abbrev pub numbers_left : NumbersIterator → List ℕ
numbers_left iterator = numbers_view_model iterator.remaining
