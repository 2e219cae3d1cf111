use Rattle.std.proofs.Common.{◌≡◌, ℕ, List, Bool, refl}
use Rattle.std.specs.Borrow.{Bor}
use Rattle.sock_diag_values.specs.declared.inet.legacy_mem_info.LegacyMemInfo.{LegacyMemInfo}
use Rattle.sock_diag_values.specs.declared.inet.mem_info.MemInfo.{MemInfo}
use Rattle.sock_diag_any.specs.AnyNla.{any_model}
use Rattle.sock_diag_any.specs.declared.nla.AnyNla.{AnyNla}
use Rattle.sock_diag_any.specs.declared.nla.AnyNla.TheVariants as nla
use Rattle.sock_diag_extras.specs.declared.options.SocketOptions.{SocketOptions}
use Rattle.sockdiag_c.specs.InetDetails.{inet_family}
use Rattle.sockdiag_c.specs.declared.inet_details.InetDetails.{InetDetails}
use Rattle.sockdiag_c.specs.private.Rows.{AddsParts}
use Rattle.sockdiag_c.proofs.inet_details.InetDetailsReplyDetails.set.Goals as goal

-- an attribute of a kind without a field changes nothing
unchanged : (d : InetDetails) (a : AnyNla)
    → ((x : Bor (List ℕ)) → a ≡ nla.Congestion x → ⊥)
    → ((x : ℕ) → a ≡ nla.Tos x → ⊥)
    → ((x : ℕ) → a ≡ nla.TrafficClass x → ⊥)
    → ((x : ℕ) → a ≡ nla.Shutdown x → ⊥)
    → ((x : ℕ) → a ≡ nla.Protocol x → ⊥)
    → ((x : Bool) → a ≡ nla.V6Only x → ⊥)
    → ((x : ℕ) → a ≡ nla.Mark x → ⊥)
    → ((x : ℕ) → a ≡ nla.ClassId x → ⊥)
    → ((x : MemInfo) → a ≡ nla.Memory x → ⊥)
    → ((x : LegacyMemInfo) → a ≡ nla.LegacyMemory x → ⊥)
    → ((x : ℕ) → a ≡ nla.CgroupId x → ⊥)
    → ((x : SocketOptions) → a ≡ nla.Options x → ⊥)
    → AddsParts inet_family.rows (any_model a) (record { old = d; new = d })
unchanged d (nla.Congestion x) n0 n1 n2 n3 n4 n5 n6 n7 n8 n9 n10 n11 = absurd (n0 x refl)
unchanged d (nla.Tos x) n0 n1 n2 n3 n4 n5 n6 n7 n8 n9 n10 n11 = absurd (n1 x refl)
unchanged d (nla.TrafficClass x) n0 n1 n2 n3 n4 n5 n6 n7 n8 n9 n10 n11 = absurd (n2 x refl)
unchanged d (nla.Shutdown x) n0 n1 n2 n3 n4 n5 n6 n7 n8 n9 n10 n11 = absurd (n3 x refl)
unchanged d (nla.Protocol x) n0 n1 n2 n3 n4 n5 n6 n7 n8 n9 n10 n11 = absurd (n4 x refl)
unchanged d (nla.V6Only x) n0 n1 n2 n3 n4 n5 n6 n7 n8 n9 n10 n11 = absurd (n5 x refl)
unchanged d (nla.Mark x) n0 n1 n2 n3 n4 n5 n6 n7 n8 n9 n10 n11 = absurd (n6 x refl)
unchanged d (nla.ClassId x) n0 n1 n2 n3 n4 n5 n6 n7 n8 n9 n10 n11 = absurd (n7 x refl)
unchanged d (nla.Memory x) n0 n1 n2 n3 n4 n5 n6 n7 n8 n9 n10 n11 = absurd (n8 x refl)
unchanged d (nla.LegacyMemory x) n0 n1 n2 n3 n4 n5 n6 n7 n8 n9 n10 n11 = absurd (n9 x refl)
unchanged d (nla.CgroupId x) n0 n1 n2 n3 n4 n5 n6 n7 n8 n9 n10 n11 = absurd (n10 x refl)
unchanged d (nla.Options x) n0 n1 n2 n3 n4 n5 n6 n7 n8 n9 n10 n11 = absurd (n11 x refl)
unchanged d other n0 n1 n2 n3 n4 n5 n6 n7 n8 n9 n10 n11 = (
  refl,
  (refl, (refl, (refl, (refl, (refl, (refl, (refl, (refl, (refl, (refl, (refl, tt))))))))))),
)

pub returns-in_default : goal.returns-in_default
returns-in_default c = record {
  header = refl;
  values = unchanged c.args.self.now c.args.nla c.in_default.not-Congestion c.in_default.not-Tos
      c.in_default.not-TrafficClass c.in_default.not-Shutdown c.in_default.not-Protocol
      c.in_default.not-V6Only c.in_default.not-Mark c.in_default.not-ClassId
      c.in_default.not-Memory c.in_default.not-LegacyMemory c.in_default.not-CgroupId
      c.in_default.not-Options;
}
