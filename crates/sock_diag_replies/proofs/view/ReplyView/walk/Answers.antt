use Rattle.std.proofs.Common.{ℕ, ◌≡◌, drop, ap, inr, ◌∙◌}
use Rattle.std.proofs.lemmas.List.{take_rest}
use Rattle.netlink_core.specs.Walk.{unread_bytes}
use Rattle.attribute_lists.proofs.Checking.{checked_items_are_all, checked_items_before_error}
use Rattle.sock_diag_replies.proofs.view.ReplyView.walk.Goals as goal

pub returns-clause-value : goal.returns-clause-value
returns-clause-value g c = λ nlas drains.
    let bytes = c.args.bytes.now in
    let part : unread_bytes c.new.result.walk ≡ drop g.H.ReplyHeader.reply.size bytes =
    c.new.ensures
    ∙ take_rest bytes _ ∙ ap (λ (n : ℕ). drop n bytes) c.length.ensures in (
      c.in_ok-header.ensures.value,
      rw part at (checked_items_are_all g.H.View.FamilyView.attribute_set g.H.View.FamilyView.model
          c.new.result nlas drains),
    )

pub returns-clause-refused : goal.returns-clause-refused
returns-clause-refused g c = λ nlas e last yields.
    let bytes = c.args.bytes.now in
    let part : unread_bytes c.new.result.walk ≡ drop g.H.ReplyHeader.reply.size bytes =
    c.new.ensures
    ∙ take_rest bytes _ ∙ ap (λ (n : ℕ). drop n bytes) c.length.ensures in
    inr (
      _,
      c.in_ok-header.ensures.value,
      rw part at (checked_items_before_error g.H.View.FamilyView.attribute_set
          g.H.View.FamilyView.model
          c.new.result last nlas e yields).0,
    )
