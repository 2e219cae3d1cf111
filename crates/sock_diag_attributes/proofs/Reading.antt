-- An attribute of any family: when a parser of an owned value returns `Memory`, and when an
-- attribute has no canonical form.
use Rattle.std.proofs.Common.{arith, inr, ◌≡◌, ◌≢◌, List, ℕ, Result, Ok, Err, IsOk, IfErr, IsErrAnd}
use Rattle.std.proofs.lemmas.Result.{err_from_is_err_and}
use Rattle.netlink_core.specs.declared.error.DecodeError.{DecodeError}
use Rattle.netlink_core.specs.declared.error.DecodeError.TheVariants.{Memory}
use Rattle.netlink_core.specs.declared.canonical_form.CanonError.{CanonError}
use Rattle.netlink_core.specs.declared.canonical_form.CanonError.TheVariants as canon
use Rattle.netlink_core.specs.Canonical.{CanonicalFails}
use Rattle.netlink_core.specs.Attribute.{Attribute, HasAttributePrefix}
use Rattle.netlink_core.specs.AttributeSet.{AttributeSet, AttributeValue, decode_attribute}
use Rattle.netlink_core.specs.AttributeSet.{NeedsNoMemoryIn}
use Rattle.netlink_core.specs.laws.AttributeSet.{decode_error_is_not_memory}
use Rattle.netlink_core.specs.FirstAttribute.{first_attribute_codec}
use Rattle.netlink_core.specs.laws.ReplyObligations.{AttributeSetLaws}

-- `Memory` is returned only for bytes with a value that needs memory
abbrev MemoryOnlyIfNeeded : (F : AttributeSet) → List ℕ → {T : Type 0} → Result T DecodeError
    → Type 0
MemoryOnlyIfNeeded F b r = IfErr r (λ e. e ≡ Memory
    → (v : AttributeValue F) × (first_attribute_codec F).parses b tt v × ¬ NeedsNoMemoryIn F v)

-- this holds for the error of a rejected value
pub rejected_needs_no_memory : (F : AttributeSet) → AttributeSetLaws F
    → (b : List ℕ) {T : Type 0} (a : Attribute)
    (e : DecodeError) → decode_attribute F a ≡ Err e → (r : Result T DecodeError)
    → IsErrAnd r (λ f. f ≡ e)
    → MemoryOnlyIfNeeded F b r
rejected_needs_no_memory F laws b a e refused r given =
    grind (arith, err_from_is_err_and r given, decode_error_is_not_memory F laws a)

-- this holds for an accepted value that was not kept, which then needs memory
pub failed_copy_needed_memory : (F : AttributeSet) {b : List ℕ} {T N E : Type 0} (a : Attribute)
    (v : AttributeValue F)
    → HasAttributePrefix b a → decode_attribute F a ≡ Ok v → (kept : Result N E) (e : E)
    → kept ≡ Err e
    → (NeedsNoMemoryIn F v → IsOk kept) → (r : Result T DecodeError)
    → IsErrAnd r (λ f. f ≡ Memory)
    → MemoryOnlyIfNeeded F b r
failed_copy_needed_memory F a v head said kept e was keeps r given =
    grind (arith, err_from_is_err_and r given)

-- a value that is rejected has no canonical form
pub rejected_has_no_canonical_form : (F : AttributeSet) → AttributeSetLaws F
    → (b : List ℕ) {T : Type 0} (a : Attribute) (e : DecodeError) → HasAttributePrefix b a
    → decode_attribute F a ≡ Err e → (r : Result T CanonError)
    → IsErrAnd r (λ f. (e ≡ Memory → f ≡ canon.Memory) × (e ≢ Memory → f ≡ canon.Refused e))
    → let C = first_attribute_codec F in
    IfErr r (CanonicalFails (C.parses b tt) (C.rejects b tt) C.is_writable)
rejected_has_no_canonical_form F laws b a e head refused r given =
    let named : e ≢ Memory = λ memory. decode_error_is_not_memory F laws a (rw memory at refused) in
    let p = err_from_is_err_and r given in
    rw (p.1, p.2.1 named) (inr (a, head, refused), named)
