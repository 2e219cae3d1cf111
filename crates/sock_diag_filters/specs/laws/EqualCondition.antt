-- `==` of addresses, prefixes, hosts and conditions is true if and only if they are equal.
use mathlib.Core.HLevel.{is_prop→PathP}
use Rattle.std.proofs.Common.{arith, rules, ◌≡◌, ◌≤◌, ◌↔◌, IsTrue}
use Rattle.std.proofs.Math.Bridge.{le_prop}
use Rattle.std.specs.contracts.net.ip_addr.IpAddrPartialEq.TheImpl.{ghosts as addresses}
use Rattle.std.specs.declared.net.ip_addr.IpAddr.{IpAddr}
use Rattle.sock_diag_filters.specs.Prefixes.{bits_of}
use Rattle.sock_diag_filters.specs.declared.condition.Condition.{Condition}
use Rattle.sock_diag_filters.specs.declared.condition.Host.{Host}
use Rattle.sock_diag_filters.specs.declared.condition.Prefix.{Prefix}
use Rattle.sock_diag_filters.specs.contracts.condition.ConditionPartialEq.TheImpl.{
  ghosts as conditions,
}
use Rattle.sock_diag_filters.specs.contracts.condition.HostPartialEq.TheImpl.{ghosts as hosts}
use Rattle.sock_diag_filters.specs.contracts.condition.PrefixPartialEq.TheImpl.{ghosts as prefixes}

pub address_equal : (a b : IpAddr) → IsTrue (addresses.eq a b) ↔ (a ≡ b)
address_equal a b = (λ h. search rules, λ e. search rules)

pub prefix_path : (v w : Prefix) → v.address ≡ w.address → v.bits ≡ w.bits → v ≡ w
prefix_path v w same fewer = λ i. record {
  address = same i;
  bits = fewer i;
  in_range = is_prop→PathP (λ j. fewer j ≤ bits_of (same j)) (λ j. le_prop) v.in_range w.in_range i;
}

pub prefix_equal : (v w : Prefix) → IsTrue (prefixes.eq v w) ↔ (v ≡ w)
prefix_equal v w = (λ h. grind (arith, address_equal, prefix_path), λ e. search rules)

pub host_equal : (v w : Host) → IsTrue (hosts.eq v w) ↔ (v ≡ w)
host_equal v w = (λ h. grind (arith, prefix_equal), λ e. search rules)

pub condition_equal : (v w : Condition) → IsTrue (conditions.eq v w) ↔ (v ≡ w)
condition_equal v w = (λ h. grind (arith, host_equal), λ e. search rules)
