use Rattle.sockdiag_c.proofs.Datagrams.{step_at_framing_error, step_at_message, step_at_no_message}
use Rattle.sockdiag_c.proofs.laws.a_step_passes_the_first_message.Goals as goal

pub returns-clause-next : goal.returns-clause-next
returns-clause-next c = step_at_message

pub returns-clause-end : goal.returns-clause-end
returns-clause-end c = step_at_no_message

pub returns-clause-error : goal.returns-clause-error
returns-clause-error c = step_at_framing_error
