use Rattle.sock_diag_replies.specs.ViewModel.{view_model}
use Rattle.sockdiag_c.proofs.Explaining.{explained}
use Rattle.sockdiag_c.proofs.error_details.explain_unix.Goals as goal

pub returns : goal.returns
returns c =
    explained _ _ view_model c.parse.result _ _ _ c.explain.ensures c.parse.ensures.value
    c.parse.ensures.error
