use Rattle.sockdiag_c.proofs.Steps.{step_at_attribute, step_at_end}
use Rattle.sockdiag_c.proofs.laws.a_step_passes_the_first_attribute.Goals as goal

pub returns-clause-next : goal.returns-clause-next
returns-clause-next c = step_at_attribute

pub returns-clause-end : goal.returns-clause-end
returns-clause-end c = step_at_end
