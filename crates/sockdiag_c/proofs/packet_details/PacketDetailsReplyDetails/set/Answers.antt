use Rattle.std.proofs.Common.{◌≡◌, ℕ, List, refl}
use Rattle.std.specs.Borrow.{Bor}
use Rattle.sock_diag_values.specs.declared.inet.mem_info.MemInfo.{MemInfo}
use Rattle.sock_diag_families.specs.declared.packet.attributes.PacketInfo.{PacketInfo}
use Rattle.sock_diag_families.specs.declared.packet.attributes.PacketRing.{PacketRing}
use Rattle.sock_diag_any.specs.AnyNla.{any_model}
use Rattle.sock_diag_any.specs.declared.nla.AnyNla.{AnyNla}
use Rattle.sock_diag_any.specs.declared.nla.AnyNla.TheVariants as nla
use Rattle.sockdiag_c.specs.PacketDetails.{packet_family}
use Rattle.sockdiag_c.specs.declared.packet_details.PacketDetails.{PacketDetails}
use Rattle.sockdiag_c.specs.private.Rows.{AddsParts}
use Rattle.sockdiag_c.proofs.packet_details.PacketDetailsReplyDetails.set.Goals as goal

-- an attribute of a kind without a field changes nothing
unchanged : (d : PacketDetails) (a : AnyNla)
    → ((x : PacketInfo) → a ≡ nla.PacketInfo x → ⊥)
    → ((x : Bor (List ℕ)) → a ≡ nla.Memberships x → ⊥)
    → ((x : PacketRing) → a ≡ nla.ReceiveFrames x → ⊥)
    → ((x : PacketRing) → a ≡ nla.SendFrames x → ⊥)
    → ((x : ℕ) → a ≡ nla.Fanout x → ⊥)
    → ((x : ℕ) → a ≡ nla.Owner x → ⊥)
    → ((x : MemInfo) → a ≡ nla.Memory x → ⊥)
    → ((x : Bor (List ℕ)) → a ≡ nla.Filter x → ⊥)
    → AddsParts packet_family.rows (any_model a) (record { old = d; new = d })
unchanged d (nla.PacketInfo x) n0 n1 n2 n3 n4 n5 n6 n7 = absurd (n0 x refl)
unchanged d (nla.Memberships x) n0 n1 n2 n3 n4 n5 n6 n7 = absurd (n1 x refl)
unchanged d (nla.ReceiveFrames x) n0 n1 n2 n3 n4 n5 n6 n7 = absurd (n2 x refl)
unchanged d (nla.SendFrames x) n0 n1 n2 n3 n4 n5 n6 n7 = absurd (n3 x refl)
unchanged d (nla.Fanout x) n0 n1 n2 n3 n4 n5 n6 n7 = absurd (n4 x refl)
unchanged d (nla.Owner x) n0 n1 n2 n3 n4 n5 n6 n7 = absurd (n5 x refl)
unchanged d (nla.Memory x) n0 n1 n2 n3 n4 n5 n6 n7 = absurd (n6 x refl)
unchanged d (nla.Filter x) n0 n1 n2 n3 n4 n5 n6 n7 = absurd (n7 x refl)
unchanged d other n0 n1 n2 n3 n4 n5 n6 n7 =
    (refl, (refl, (refl, (refl, (refl, (refl, (refl, (refl, tt))))))))

pub returns-in_default : goal.returns-in_default
returns-in_default c = record {
  header = refl;
  values = unchanged c.args.self.now c.args.nla c.in_default.not-PacketInfo
      c.in_default.not-Memberships c.in_default.not-ReceiveFrames c.in_default.not-SendFrames
      c.in_default.not-Fanout c.in_default.not-Owner c.in_default.not-Memory
      c.in_default.not-Filter;
}
