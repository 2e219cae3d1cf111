use Rattle.std.proofs.Common.{◌≡◌, length, sym, ◌∙◌, arith}
use Rattle.std.proofs.lemmas.List.{take_at}
use Rattle.sock_diag_attributes.specs.laws.Number.{numbers_read_by_index}
use Rattle.sock_diag_attributes.proofs.numbers.NumbersView.to_owned.Goals as goal

pub returns-clause-equal : goal.returns-clause-equal
returns-clause-equal c =
    let numbers = c.read_u32_into.new.dst in
    let long : length numbers ≡ c.in_ok-numbers.numbers.len = c.read_u32_into.auto.dst
    ∙ c.deref_mut.ensures.len in
    take_at numbers _ _ long ∙ sym (numbers_read_by_index c.args.self.now.bytes.now numbers
    (omega (arith, c.in_ok-numbers.ensures.len, c.args.self.now.whole)) c.read_u32_into.ensures)
