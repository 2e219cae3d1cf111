use Rattle.sock_diag_filters.proofs.NewPrefix.{new_prefix_is_prefix_of}
use Rattle.sock_diag_filters.proofs.text.values.new_prefix.Goals as goal

pub returns : goal.returns
returns c = new_prefix_is_prefix_of _ _ _ c.new.ensures
