use Rattle.netlink_core.proofs.SplitCases.{endings_exclude_each_other}
use Rattle.netlink_core.proofs.laws.split_is_as_stated.Goals as goal

pub returns : goal.returns
returns c = record { none = λ bytes. (λ h. h, λ h. h); some = endings_exclude_each_other }
