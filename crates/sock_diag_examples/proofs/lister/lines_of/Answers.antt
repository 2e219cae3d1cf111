use Rattle.std.proofs.Common.{List, [], ◌∷◌, ◌++◌, sym, ap, ◌∙◌}
use Rattle.std.specs.Prelude.{map}
use Rattle.std.proofs.lemmas.List.{map_push}
use Rattle.netlink_core.specs.Errors.{map_ok}
use Rattle.netlink_packet_sock_diag.specs.PayloadViewModel.{payload_view_model}
use Rattle.sock_diag_examples.specs.Lister.{line_of}
use Rattle.sock_diag_examples.proofs.Pushing.{nothing_is_appended, value_is_appended}
use Rattle.sock_diag_examples.proofs.lister.lines_of.Goals as goal

pub loop-item-preserved-in-Continue-1 : goal.loop-item-preserved-in-Continue-1
loop-item-preserved-in-Continue-1 c =
    let added = value_is_appended line_of (map (map_ok payload_view_model) c.loop-item.yielded)
    (map_ok payload_view_model c.in-Some.item)
    c.in-Some-line_for.line (sym c.in-Some-line_for.ensures) in
    rw map_push (c.in_ok-push.ensures.items
    ∙ ap (λ (lines : List _). lines ++ c.in-Some-line_for.line ∷ []) c.loop-item.invariant
    ∙ sym added)

pub loop-item-preserved : goal.loop-item-preserved
loop-item-preserved c = rw map_push (c.loop-item.invariant
    ∙ sym (nothing_is_appended line_of (map (map_ok payload_view_model) c.loop-item.yielded)
    (map_ok payload_view_model c.in-Some.item)
    (sym c.in_default.ensures)))

pub returns : goal.returns
returns c =
    let all = rw c.into_iter-item-iterator.ensures.into_iter_gives at c.loop-item.yielded_by in (
      c.loop-item.yielded,
      (
        c.next.new.self,
        (c.loop-item.item-iterator, all, c.in-None.ensures.steps),
      ),
      c.loop-item.invariant,
    )
