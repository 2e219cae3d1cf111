-- When a parsed value is not serialized.
use Rattle.std.proofs.Common.{arith, ◌↔◌}
use Rattle.netlink_core.specs.declared.error.DecodeError.{DecodeError}
use Rattle.netlink_core.specs.declared.canonical_form.CanonError.{CanonError}
use Rattle.netlink_core.specs.Canonical.{CanonicalFails, SerializingFails}

-- if bytes parse as a value, then an error of serializing it is an error of their canonical form
pub canonical_fails : {W V : Type 0} (model : W → V) (parses : V → Type 0) (rejects : DecodeError
    → Type 0)
    (fits : V → Type 0) (writable : W → Type 0) (w : W) → parses (model w)
    → (writable w ↔ fits (model w)) → (e : CanonError)
    → SerializingFails writable w e → CanonicalFails parses rejects fits e
canonical_fails model parses rejects fits writable w r f e h =
    grind arith
