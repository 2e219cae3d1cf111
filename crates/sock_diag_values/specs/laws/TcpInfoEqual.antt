-- `==` of `TcpInfo` returns true if and only if all fields are equal.
use Rattle.std.proofs.Common.{arith, ◌≡◌, ◌↔◌, ◌&&◌, ℕ, List, [], ◌∷◌, Bool, false, eqb, IsTrue}
use Rattle.std.proofs.Common.{drop, rules}
use Rattle.sock_diag_values.specs.declared.inet.tcp_info.TcpInfo.{TcpInfo}
use Rattle.sock_diag_values.specs.TcpInfo.{tcp_info_rows}
use Rattle.netlink_core.specs.Rows.{numbers_of}

-- whether two nonempty lists, each given by its first element and the others, are equal
abbrev nonempty_lists_equal : ℕ → ℕ → List ℕ → List ℕ → Bool
nonempty_lists_equal x y [] [] = eqb x y
nonempty_lists_equal x y (a ∷ xs) (b ∷ ys) = eqb x y && nonempty_lists_equal a b xs ys
nonempty_lists_equal x y _ _ = false

equal_lists_are_identical : (x y : ℕ) (xs ys : List ℕ) → IsTrue (nonempty_lists_equal x y xs ys)
    → (x ∷ xs) ≡ (y ∷ ys)
equal_lists_are_identical x y [] [] h = grind arith
equal_lists_are_identical x y [] (b ∷ ys) h = search rules
equal_lists_are_identical x y (a ∷ xs) [] h = search rules
equal_lists_are_identical x y (a ∷ xs) (b ∷ ys) h =
    grind (arith, equal_lists_are_identical a b xs ys)

list_equals_itself : (x : ℕ) (xs : List ℕ) → IsTrue (nonempty_lists_equal x x xs xs)
list_equals_itself x [] = grind arith
list_equals_itself x (a ∷ xs) =
    grind (arith, list_equals_itself a xs)

pub tcp_info_equal : (v w : TcpInfo)
    → IsTrue (nonempty_lists_equal v.state w.state (drop 1 (numbers_of tcp_info_rows v))
    (drop 1 (numbers_of tcp_info_rows w)))
    ↔ (v ≡ w)
tcp_info_equal v w =
    grind (
      arith,
      equal_lists_are_identical v.state w.state (drop 1 (numbers_of tcp_info_rows v)) (drop 1
          (numbers_of tcp_info_rows w)),
      list_equals_itself w.state (drop 1 (numbers_of tcp_info_rows w)),
    )
