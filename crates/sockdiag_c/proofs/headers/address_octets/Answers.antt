use Rattle.std.proofs.Common.{◌≡◌, ◌∙◌, ◌+◌, ◌-◌, ℕ, ap, arith, drop, sym, take}
use Rattle.sockdiag_c.proofs.InetHeaders.{ipv6_octets_back}
use Rattle.sockdiag_c.proofs.headers.address_octets.Goals as goal

pub returns-in-V6 : goal.returns-in-V6
returns-in-V6 c =
    let payload = c.args.payload.now in
    let offset = c.args.offset in
    let segments = rw c.in-V6.is at c.requires.address in
    let size : (offset + 16) - offset ≡ 16 = omega arith in
    rw c.in-V6.is (c.copy_from_slice-in-V6.ensures.after
    ∙ ap (λ (n : ℕ). take n (drop offset payload)) size
    ∙ sym (ipv6_octets_back offset payload c.in-V6.field-0.segments
    (λ i. omega (arith, c.type_inv.payload i)) c.requires.within segments))
