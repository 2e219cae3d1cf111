use Rattle.std.proofs.Common.{◌≡◌, ℕ, List, refl}
use Rattle.std.specs.Borrow.{Bor}
use Rattle.sock_diag_values.specs.declared.inet.mem_info.MemInfo.{MemInfo}
use Rattle.sock_diag_values.specs.declared.unix.vfs.Vfs.{Vfs}
use Rattle.sock_diag_attributes.specs.declared.unix.name.SocketName.{SocketName}
use Rattle.sock_diag_any.specs.AnyNla.{any_model}
use Rattle.sock_diag_any.specs.declared.nla.AnyNla.{AnyNla}
use Rattle.sock_diag_any.specs.declared.nla.AnyNla.TheVariants as nla
use Rattle.sockdiag_c.specs.UnixDetails.{unix_family}
use Rattle.sockdiag_c.specs.declared.unix_details.UnixDetails.{UnixDetails}
use Rattle.sockdiag_c.specs.private.Rows.{AddsParts}
use Rattle.sockdiag_c.proofs.unix_details.UnixDetailsReplyDetails.set.Goals as goal

-- an attribute of a kind without a field changes nothing
unchanged : (d : UnixDetails) (a : AnyNla)
    → ((x : SocketName (Bor (List ℕ))) → a ≡ nla.Name x → ⊥)
    → ((x : Vfs) → a ≡ nla.Vfs x → ⊥)
    → ((x : ℕ) → a ≡ nla.Peer x → ⊥)
    → ((x y : ℕ) → a ≡ nla.QueueLengths x y → ⊥)
    → ((x : MemInfo) → a ≡ nla.Memory x → ⊥)
    → ((x : ℕ) → a ≡ nla.Shutdown x → ⊥)
    → ((x : ℕ) → a ≡ nla.Owner x → ⊥)
    → AddsParts unix_family.rows (any_model a) (record { old = d; new = d })
unchanged d (nla.Name x) n0 n1 n2 n3 n4 n5 n6 = absurd (n0 x refl)
unchanged d (nla.Vfs x) n0 n1 n2 n3 n4 n5 n6 = absurd (n1 x refl)
unchanged d (nla.Peer x) n0 n1 n2 n3 n4 n5 n6 = absurd (n2 x refl)
unchanged d (nla.QueueLengths x y) n0 n1 n2 n3 n4 n5 n6 = absurd (n3 x y refl)
unchanged d (nla.Memory x) n0 n1 n2 n3 n4 n5 n6 = absurd (n4 x refl)
unchanged d (nla.Shutdown x) n0 n1 n2 n3 n4 n5 n6 = absurd (n5 x refl)
unchanged d (nla.Owner x) n0 n1 n2 n3 n4 n5 n6 = absurd (n6 x refl)
unchanged d other n0 n1 n2 n3 n4 n5 n6 =
    (refl, (refl, (refl, (refl, (refl, (refl, (refl, (refl, (refl, tt)))))))))

pub returns-in_default : goal.returns-in_default
returns-in_default c = record {
  header = refl;
  values = unchanged c.args.self.now c.args.nla c.in_default.not-Name c.in_default.not-Vfs
      c.in_default.not-Peer c.in_default.not-QueueLengths c.in_default.not-Memory
      c.in_default.not-Shutdown c.in_default.not-Owner;
}
