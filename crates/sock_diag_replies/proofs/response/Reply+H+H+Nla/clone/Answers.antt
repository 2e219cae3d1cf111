use Rattle.std.proofs.Common.{◌≡◌, false, true, refl}
use lib.ListN.{length-map}
use Rattle.sock_diag_replies.proofs.response.Reply+H+H+Nla.clone.Goals as goal

pub returns-in_err-nlas-clause-needs_no_memory : goal.returns-in_err-nlas-clause-needs_no_memory
returns-in_err-nlas-clause-needs_no_memory g c = λ few.
    let none : false ≡ true = c.in_err-nlas.ensures.needs_no_memory
    (rw c.as_slice.ensures (rw length-map at few.0))
    (rw c.as_slice.ensures few.1) in
    absurd (cc)

pub returns-in_err-clone-clause-needs_no_memory : goal.returns-in_err-clone-clause-needs_no_memory
returns-in_err-clone-clause-needs_no_memory g c = λ few.
    absurd (c.in_err-clone.ensures.cases (g.met.H.Exact.exact.2 _))

pub returns-clause-equal : goal.returns-clause-equal
returns-clause-equal g c =
    rw (
      g.met.H.Exact.exact.1 _ _ c.in_ok-clone.ensures.cases,
      c.in_ok-nlas.ensures.equal,
      c.as_slice.ensures,
    ) refl
