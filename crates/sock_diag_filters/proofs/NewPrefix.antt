-- The prefix of an address with a number of bits.
use Rattle.std.proofs.Common.{◌≡◌, ℕ, ◌≤◌, ◌<◌, ◌⊎◌, inl, inr, refl, subst, ap, arith}
use Rattle.std.proofs.Common.{Option, Some, None}
use Rattle.std.proofs.lemmas.Bool.{cases_lt}
use Rattle.std.specs.declared.net.ip_addr.IpAddr.{IpAddr}
use Rattle.sock_diag_filters.specs.Conditions.{IsNewPrefix}
use Rattle.sock_diag_filters.specs.Prefixes.{bits_of}
use Rattle.sock_diag_filters.specs.Values.{prefix_of}
use Rattle.sock_diag_filters.specs.declared.condition.Prefix.{Prefix}
use Rattle.sock_diag_filters.specs.laws.EqualCondition.{prefix_path}

some_prefix : (address : IpAddr) (bits : ℕ) (prefix : Prefix) → prefix.address ≡ address
    → prefix.bits ≡ bits → (d : (bits_of address < bits) ⊎ (bits ≤ bits_of address))
    → Some prefix ≡ (elim d as (λ _. Option Prefix) [
      | inl more ↦ None
      | inr within ↦ Some (record { address = address; bits = bits; in_range = within })
    ])
some_prefix address bits prefix a b (inl more) =
    let within : prefix.bits ≤ bits_of prefix.address = prefix.in_range in
    absurd (let h : bits ≤ bits_of address = subst (λ n. n ≤ bits_of address) b (subst (λ x.
    prefix.bits ≤ bits_of x) a within) in omega arith)
some_prefix address bits prefix a b (inr within) = ap (λ p. Some p) (prefix_path prefix _ a b)

no_prefix : (address : IpAddr) (bits : ℕ) → (bits ≤ bits_of address → ⊥)
    → (d : (bits_of address < bits) ⊎ (bits ≤ bits_of address))
    → None ≡ (elim d as (λ _. Option Prefix) [
      | inl more ↦ None
      | inr within ↦ Some (record { address = address; bits = bits; in_range = within })
    ])
no_prefix address bits h (inl more) = refl
no_prefix address bits h (inr within) = absurd (h within)

pub new_prefix_is_prefix_of : (result : Option Prefix) (address : IpAddr) (bits : ℕ)
    → IsNewPrefix result address bits → result ≡ prefix_of address bits
new_prefix_is_prefix_of (Some prefix) address bits (a, b) =
    some_prefix address bits prefix a b (cases_lt (bits_of address) bits)
new_prefix_is_prefix_of None address bits h = no_prefix address bits h (cases_lt (bits_of address)
    bits)
