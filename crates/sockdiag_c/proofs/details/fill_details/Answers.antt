use Rattle.std.proofs.Common.{◌∙◌, None, Option, ap, inr, refl, sym}
use Rattle.std.specs.Option.{option_or}
use Rattle.netlink_core.specs.declared.error.DecodeError.{DecodeError}
use Rattle.sockdiag_c.specs.Family.{ReplyParts}
use Rattle.sockdiag_c.proofs.Rows.{are_parts, none_if_not_some}
use Rattle.sockdiag_c.proofs.details.fill_details.Goals as goal

pub returns-in-Some-clause-error : goal.returns-in-Some-clause-error
returns-in-Some-clause-error g c =
    let head = c.in_ok-found.ensures in
    let parts = c.set_values.ensures in
    let header = parts.2 ∙ c.set_valid_values.ensures.header in
    inr (
      parts.0,
      are_parts g.T.ReplyDetails.family _ _ _ parts.0 head.header head.rest parts.1 header,
      sym parts.5 ∙ c.in-Some.is,
    )

pub returns-in_default-clause-details : goal.returns-in_default-clause-details
returns-in_default-clause-details g c =
    let head = c.in_ok-found.ensures in
    let parts = c.set_values.ensures in
    let header = parts.2 ∙ c.set_valid_values.ensures.header in (
      parts.0,
      are_parts g.T.ReplyDetails.family _ _ _ parts.0 head.header head.rest parts.1 header,
      sym parts.5 ∙ none_if_not_some _ c.in_default.not-Some,
      parts.3,
    )

pub returns-else-not-set_valid_values-clause-details :
    goal.returns-else-not-set_valid_values-clause-details
returns-else-not-set_valid_values-clause-details g c =
    let family = g.T.ReplyDetails.family in
    let head = c.in_ok-found.ensures in
    let all = c.set_valid_values.ensures.values head.values c.if-not-set_valid_values.false in
    let parts : ReplyParts family.Header = record {
      header = family.header c.in_ok-found.found;
      attributes = all.0;
      framing_error = None;
    } in (
      parts,
      are_parts family _ _ _ parts head.header head.rest all.1 refl,
      ap (λ (o : Option DecodeError). option_or o None) all.2,
      (c.set_valid_values.ensures.header, all.3),
    )
