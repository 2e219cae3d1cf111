use Rattle.netlink_packet_sock_diag.specs.MessageViewModel.{message_view_model}
use Rattle.sockdiag_c.proofs.Explaining.{explained}
use Rattle.sockdiag_c.proofs.error_details.explain_message.Goals as goal

pub returns : goal.returns
returns c =
    explained _ _ message_view_model c.parse.result _ _ _ c.explain.ensures c.parse.ensures.value
    c.parse.ensures.error
