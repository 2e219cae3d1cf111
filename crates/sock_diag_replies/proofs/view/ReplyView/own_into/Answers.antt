use Rattle.std.proofs.Common.{◌∙◌, ap, map, rules, sym}
use Rattle.sock_diag_replies.specs.ViewModel.{bytes_after_header}
use Rattle.sock_diag_replies.proofs.view.ReplyView.own_into.Goals as goal

pub returns-then-is_empty-clause-equal : goal.returns-then-is_empty-clause-equal
returns-then-is_empty-clause-equal g c =
    ap (map g.H.Nla.FamilyNla.model) c.requires ∙ sym (c.is_empty.ensures c.if-is_empty.true)

pub own_nlas-requires : goal.own_nlas-requires
own_nlas-requires g c = (
  search rules,
  (
    g.met.H.ReplyOwned.both_accept _ c.attribute_bytes.ensures.clean,
    (
      rw c.attribute_bytes.ensures.after_header (c.count.ensures ∙ g.met.H.ReplyOwned.same_count _),
      c.requires,
    ),
  ),
)

pub returns-clause-equal : goal.returns-clause-equal
returns-clause-equal g c = rw c.attribute_bytes.ensures.after_header at c.own_nlas.ensures.equal

pub returns-clause-needs_no_memory : goal.returns-clause-needs_no_memory
returns-clause-needs_no_memory g c = λ room few.
    let same = g.met.H.ReplyOwned.same_count (bytes_after_header c.args.self.now) in
    let count = c.count.ensures ∙ same in
    c.own_nlas.ensures.needs_no_memory (rw (room, count) few.0)
    (rw c.attribute_bytes.ensures.after_header few.1)
