use Rattle.std.proofs.Common.{sym, arith}
use Rattle.std.proofs.lemmas.List.{drop_all, take_rest}
use Rattle.sock_diag_extras.proofs.bytes.suffix_from.Goals as goal

pub returns-then-bytes-count : goal.returns-then-bytes-count
returns-then-bytes-count c =
    sym (drop_all c.args.count c.args.bytes.now (omega arith))

pub returns : goal.returns
returns c = take_rest c.args.bytes.now c.args.count
