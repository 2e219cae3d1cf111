use Rattle.std.proofs.Common.{◌≡◌, ℕ, [], arith, inl, inr, refl}
use Rattle.netlink_core.specs.AttributeSet.{decode_attribute}
use Rattle.netlink_core.specs.declared.error.DecodeError.TheVariants.{UnsupportedFamily}
use Rattle.attribute_lists.proofs.Finding.{found_values_are_decoded}
use Rattle.sock_diag_records.specs.SignificantBits.{IsInetFamily}
use Rattle.sockdiag_c.proofs.filters.sockdiag_write_inet_request_with_attributes.Goals as goal
use Rattle.sockdiag_c.proofs.filters.sockdiag_write_inet_request_with_attributes.Goals.{
  else-family-ne-AF_INET-via-else-family-ne-AF_INET,
  else-family-ne-AF_INET-via-then-family-ne-AF_INET+else-family-ne-AF_INET6,
}

no_inet_family : (n : ℕ) → (n ≡ 2 → ⊥) → (n ≡ 10 → ⊥) → ¬ IsInetFamily n
no_inet_family n other another (inl is) = other is
no_inet_family n other another (inr is) = another is

pub returns-then-family-ne-AF_INET6 : goal.returns-then-family-ne-AF_INET6
returns-then-family-ne-AF_INET6 c =
    inr (
      UnsupportedFamily c.args.request.now.family,
      inl (no_inet_family _ c.if-family-ne-AF_INET.true c.if-family-ne-AF_INET6.true, refl),
      (c.reject.ensures.code, c.reject.ensures.none, refl),
    )

pub returns-in-Ok : goal.returns-in-Ok
returns-in-Ok c =
    let family : IsInetFamily c.args.request.now.family =
    elim c.else-family-ne-AF_INET.branch [
      | else-family-ne-AF_INET-via-then-family-ne-AF_INET+else-family-ne-AF_INET6 w ↦
          inr w.if-family-ne-AF_INET6.false
      | else-family-ne-AF_INET-via-else-family-ne-AF_INET w ↦ inl w.if-family-ne-AF_INET.false
    ] in
    let means = found_values_are_decoded (decode_attribute []) c.args.attributes.now
    (λ i. omega (arith, c.type_inv.attributes i)) c.in-Ok.ensures.clean in
    inl (means.0, (family, means.1), c.write_value.ensures)
