use Rattle.std.proofs.Common.{arith, sym}
use Rattle.std.proofs.lemmas.Result.{IfOk-weaker}
use Rattle.sock_diag_examples.proofs.stored.key.Goals as goal

pub returns-clause-key : goal.returns-clause-key
returns-clause-key c = IfOk-weaker c.canonical.result _ _
    (λ key (message, is, fits, written). record {
      in_range = λ i. omega (arith, c.type_inv.reply i);
      message = message;
      parses = is;
      is_writable = fits;
      serialized = written;
    }) c.canonical.ensures.written

pub returns-clause-equal_bytes : goal.returns-clause-equal_bytes
returns-clause-equal_bytes c = IfOk-weaker c.canonical.result _ _
    (λ key same other theirs k.
    let equal = same other theirs k.in_range (k.message, k.parses, k.is_writable, k.serialized) in
    (λ e. equal.0 (sym e), λ i. sym (equal.1 i)))
    c.canonical.ensures.same
