use Rattle.std.proofs.Common.{◌≡◌, ◌≢◌, List, ℕ, Result, Err, IfErr, IsErrAnd}
use Rattle.std.proofs.lemmas.Result.{err_from_is_err_and, IfOk-weaker, IfErr-weaker}
use Rattle.netlink_core.specs.declared.error.DecodeError.{DecodeError}
use Rattle.netlink_core.specs.declared.error.DecodeError.TheVariants.{Memory}
use Rattle.netlink_core.specs.declared.canonical_form.CanonError.{CanonError}
use Rattle.netlink_core.specs.declared.canonical_form.CanonError.TheVariants as canon
use Rattle.netlink_core.specs.Canonical.{CanonicalFails}
use Rattle.netlink_core.proofs.Rewriting.{canonical_fails}
use Rattle.sock_diag_attributes.specs.Name.{name_codec, parse_name}
use Rattle.sock_diag_attributes.specs.laws.Name.{name_codec_laws}
use Rattle.sock_diag_attributes.specs.NameModel.{socket_name_model}
use Rattle.sock_diag_attributes.proofs.unix.name.UnixDiagNameWire.rewrite.Goals as goal

-- bytes that are rejected have no canonical form
refused_has_no_form : (b : List ℕ) {T : Type 0} (e : DecodeError) → parse_name b ≡ Err e
    → (r : Result T CanonError)
    → IsErrAnd r (λ f. (e ≡ Memory → f ≡ canon.Memory) × (e ≢ Memory → f ≡ canon.Refused e))
    → IfErr r (CanonicalFails (name_codec.parses b tt) (name_codec.rejects b tt)
    name_codec.is_writable)
refused_has_no_form b e refused r given =
    let named : e ≢ Memory = λ memory. name_codec_laws.error_is_not_memory b tt
    (rw memory at refused) in
    let p = err_from_is_err_and r given in
    rw (p.1, p.2.1 named) (refused, named)

pub returns-in_err-parse-clause-err : goal.returns-in_err-parse-clause-err
returns-in_err-parse-clause-err g c =
    refused_has_no_form c.args.bytes.now _ c.in_err-parse.ensures _ c.from_residual.ensures.1

pub returns-clause-written : goal.returns-clause-written
returns-clause-written g c =
    IfOk-weaker c.write_new.result _ _
    (λ w (fits, written). (_, c.in_ok-parse.ensures, fits, written))
    c.write_new.ensures.written

pub returns-clause-err : goal.returns-clause-err
returns-clause-err g c =
    let bytes = c.args.bytes.now in
    IfErr-weaker c.write_new.result _ _
    (canonical_fails (socket_name_model (λ b. b.now)) (name_codec.parses bytes tt)
    (name_codec.rejects bytes tt)
    name_codec.is_writable _ c.in_ok-parse.field-0 c.in_ok-parse.ensures (λ h. h, λ h. h))
    c.write_new.ensures.err
