use Rattle.std.proofs.Common.{◌≡◌, ◌↔◌, ℕ, IsTrue, Option, Some, String, eqb, string_eq, arith}
use Rattle.std.specs.Option.{option_eq}
use Rattle.std.specs.declared.alloc.Global.{Global}
use lib.Pointwise.{bytes_decides}
use Rattle.netlink_core.specs.laws.Equality.{and_decides}
use Rattle.sock_diag_examples.specs.Link.{string_content}
use Rattle.sock_diag_examples.proofs.link.equal_links.Goals as goal

-- names are compared by their bytes
names_equal : (a b : Option (String Global))
    → IsTrue (option_eq string_eq a b) ↔ (string_content a ≡ string_content b)
names_equal (Some x) (Some y) =
    grind (arith, bytes_decides x.bytes.items y.bytes.items)
names_equal a b = grind arith

numbers_equal : (a b : Option ℕ) → IsTrue (option_eq eqb a b) ↔ (a ≡ b)
numbers_equal a b = (λ h. grind arith, λ e. grind (arith, e))

pub returns : goal.returns
returns c =
    let v = c.args.v.now in
    let w = c.args.w.now in
    rw c.eq.ensures (and_decides (names_equal v.name w.name) (numbers_equal v.mtu w.mtu))
