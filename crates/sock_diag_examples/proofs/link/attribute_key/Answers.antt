use Rattle.std.proofs.Common.{refl}
use Rattle.std.proofs.lemmas.Result.{IfOk-weaker}
use Rattle.netlink_core.specs.Attribute.{attribute_bytes}
use Rattle.sock_diag_examples.proofs.link.attribute_key.Goals as goal

pub returns-clause-equal_bytes : goal.returns-clause-equal_bytes
returns-clause-equal_bytes c = IfOk-weaker c.canonical.result _ _
    (λ key same other theirs in_range parses fits.
    same other (attribute_bytes theirs) in_range (theirs, parses, fits, refl))
    c.canonical.ensures.same
