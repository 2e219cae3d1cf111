use Rattle.sockdiag_c.proofs.Explaining.{explained}
use Rattle.sockdiag_c.proofs.error_details.explain_details.Goals as goal

pub returns : goal.returns
returns g c =
    explained _ _ (λ done. c.fill_details.new.details) c.fill_details.result _ _ _ c.explain.ensures
    c.fill_details.ensures.details c.fill_details.ensures.error
