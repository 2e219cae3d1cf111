use Rattle.std.proofs.Common.{◌≡◌, ℕ, refl}
use Rattle.sock_diag_values.specs.declared.inet.mem_info.MemInfo.{MemInfo}
use Rattle.sock_diag_families.specs.declared.xdp.attributes.XdpInfo.{XdpInfo}
use Rattle.sock_diag_families.specs.declared.xdp.attributes.XdpStatistics.{XdpStatistics}
use Rattle.sock_diag_families.specs.declared.xdp.attributes.XdpUmem.{XdpUmem}
use Rattle.sock_diag_any.specs.AnyNla.{any_model}
use Rattle.sock_diag_any.specs.declared.nla.AnyNla.{AnyNla}
use Rattle.sock_diag_any.specs.declared.nla.AnyNla.TheVariants as nla
use Rattle.sockdiag_c.specs.XdpDetails.{xdp_family}
use Rattle.sockdiag_c.specs.declared.xdp_details.XdpDetails.{XdpDetails}
use Rattle.sockdiag_c.specs.private.Rows.{AddsParts}
use Rattle.sockdiag_c.proofs.xdp_details.XdpDetailsReplyDetails.set.Goals as goal

-- an attribute of a kind without a field changes nothing
unchanged : (d : XdpDetails) (a : AnyNla)
    → ((x : XdpInfo) → a ≡ nla.XdpInfo x → ⊥)
    → ((x : ℕ) → a ≡ nla.Owner x → ⊥)
    → ((x : ℕ) → a ≡ nla.ReceiveRing x → ⊥)
    → ((x : ℕ) → a ≡ nla.SendRing x → ⊥)
    → ((x : XdpUmem) → a ≡ nla.Umem x → ⊥)
    → ((x : ℕ) → a ≡ nla.FillRing x → ⊥)
    → ((x : ℕ) → a ≡ nla.CompletionRing x → ⊥)
    → ((x : MemInfo) → a ≡ nla.Memory x → ⊥)
    → ((x : XdpStatistics) → a ≡ nla.Statistics x → ⊥)
    → AddsParts xdp_family.rows (any_model a) (record { old = d; new = d })
unchanged d (nla.XdpInfo x) n0 n1 n2 n3 n4 n5 n6 n7 n8 = absurd (n0 x refl)
unchanged d (nla.Owner x) n0 n1 n2 n3 n4 n5 n6 n7 n8 = absurd (n1 x refl)
unchanged d (nla.ReceiveRing x) n0 n1 n2 n3 n4 n5 n6 n7 n8 = absurd (n2 x refl)
unchanged d (nla.SendRing x) n0 n1 n2 n3 n4 n5 n6 n7 n8 = absurd (n3 x refl)
unchanged d (nla.Umem x) n0 n1 n2 n3 n4 n5 n6 n7 n8 = absurd (n4 x refl)
unchanged d (nla.FillRing x) n0 n1 n2 n3 n4 n5 n6 n7 n8 = absurd (n5 x refl)
unchanged d (nla.CompletionRing x) n0 n1 n2 n3 n4 n5 n6 n7 n8 = absurd (n6 x refl)
unchanged d (nla.Memory x) n0 n1 n2 n3 n4 n5 n6 n7 n8 = absurd (n7 x refl)
unchanged d (nla.Statistics x) n0 n1 n2 n3 n4 n5 n6 n7 n8 = absurd (n8 x refl)
unchanged d other n0 n1 n2 n3 n4 n5 n6 n7 n8 =
    (refl, (refl, (refl, (refl, (refl, (refl, (refl, (refl, (refl, tt)))))))))

pub returns-in_default : goal.returns-in_default
returns-in_default c = record {
  header = refl;
  values = unchanged c.args.self.now c.args.nla c.in_default.not-XdpInfo c.in_default.not-Owner
      c.in_default.not-ReceiveRing c.in_default.not-SendRing c.in_default.not-Umem
      c.in_default.not-FillRing c.in_default.not-CompletionRing c.in_default.not-Memory
      c.in_default.not-Statistics;
}
