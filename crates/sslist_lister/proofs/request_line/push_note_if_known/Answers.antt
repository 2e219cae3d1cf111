use Rattle.std.proofs.Common.{◌≡◌, ◌++◌, ◌∙◌, OnOk, ap, if◌then◌else◌, rules, subst, sym}
use Rattle.sslist_lister.specs.Messages.{message_parts}
use Rattle.sslist_lister.specs.RequestLine.{is_known_request, known_request_note}
use Rattle.sslist_lister.proofs.request_line.push_note_if_known.Goals as goal

pub returns-then-is_known_request : goal.returns-then-is_known_request
returns-then-is_known_request c =
    subst (λ known. OnOk c.push_note.result (c.push_note.new.text.items ≡ c.args.text.now.items
    ++ (if known then known_request_note (message_parts c.args.request.now)
    else c.args.unknown.now)))
    (sym c.if-is_known_request.true ∙ c.is_known_request.ensures
    ∙ ap is_known_request c.requested_by.ensures)
    c.push_note.ensures

pub returns-else-is_known_request : goal.returns-else-is_known_request
returns-else-is_known_request c =
    subst (λ known. OnOk c.extend_from_slice.result (c.extend_from_slice.new.self.items
    ≡ c.args.text.now.items ++ (if known then known_request_note (message_parts c.args.request.now)
    else c.args.unknown.now)))
    (sym c.if-is_known_request.false ∙ c.is_known_request.ensures
    ∙ ap is_known_request c.requested_by.ensures)
    (search rules)
