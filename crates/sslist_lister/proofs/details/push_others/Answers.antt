use Rattle.std.proofs.Common.{◌≡◌, ◌++◌, ◌∙◌, ap, sym}
use Rattle.netlink_core.specs.Attribute.{attribute_kind}
use Rattle.sslist_lister.specs.Collected.{other_model}
use Rattle.sslist_lister.specs.Details.{detail_group, other_detail, status_text}
use Rattle.sslist_command_line.specs.Options.{shows_detail}
use Rattle.sslist_texts.proofs.Adding.{one_more_element_appended, selected_part_appended}
use Rattle.sslist_texts.proofs.Adding.{all_parts_appended, unselected_part_absent}
use Rattle.sslist_lister.proofs.details.push_others.Goals as goal
use Rattle.sslist_lister.proofs.details.push_others.Goals.{else-shows}
use Rattle.sslist_lister.proofs.details.push_others.Goals.{then-shows+in_ok-push_status}

pub loop-nla-preserved : goal.loop-nla-preserved
loop-nla-preserved c =
    let other = other_model c.loop-nla-item.result in
    let shown : c.shows.result ≡ shows_detail c.args.options
    (detail_group c.args.sockets (attribute_kind other.0)) =
    c.shows.ensures ∙ ap (shows_detail c.args.options)
    (c.detail_group.ensures ∙ ap (detail_group c.args.sockets) c.kind.ensures) in
    let added : c.if-shows.text.items ≡ c.loop-nla.text.items
    ++ other_detail c.args.options c.args.sockets other =
    elim c.if-shows.branch [
      | then-shows+in_ok-push_status w ↦ rw w.text-is
          (selected_part_appended _ (status_text other.0 other.1) _ _ (sym shown ∙ w.if-shows.true)
          w.in_ok-push_status.ensures)
      | else-shows w ↦ rw w.text-is (unselected_part_absent _ (status_text other.0 other.1) _
          (sym shown ∙ w.if-shows.false))
    ] in
    one_more_element_appended
    (λ other. other_detail c.args.options c.args.sockets (other_model other)) _ _ _ _ _ _
    c.loop-nla-test.true c.loop-nla-item.is added c.loop-nla.invariant

pub returns : goal.returns
returns c =
    all_parts_appended
    (λ other. other_detail c.args.options c.args.sockets (other_model other)) _ _ _ _
    c.loop-nla-test.false c.loop-nla.invariant
