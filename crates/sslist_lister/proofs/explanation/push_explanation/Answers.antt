use Rattle.std.proofs.Common.{◌++◌, ◌∙◌}
use Rattle.std.proofs.lemmas.Result.{on_ok_weaker}
use Rattle.sslist_lister.specs.Explanation.{text_and_offset_in}
use Rattle.sslist_lister.specs.Messages.{request_in}
use Rattle.sslist_lister.specs.RequestLine.{request_note}
use Rattle.sslist_texts.proofs.Adding.{appended_texts_concatenate}
use Rattle.sslist_lister.proofs.explanation.push_explanation.Goals as goal

pub returns : goal.returns
returns c =
    let before = c.args.text.now.items in
    let mid = c.push_request_note.new.text.items in
    on_ok_weaker c.push_text_and_offset.result
    (λ added. appended_texts_concatenate before mid _ _ _
    (c.in_ok-push_request_note.ensures ∙ (λ i. before
    ++ request_note (c.unknown_request.ensures i) (request_in (c.request_of.ensures i))))
    (added ∙ (λ i. mid ++ text_and_offset_in (c.attributes_of.ensures i))))
    c.push_text_and_offset.ensures
