use Rattle.std.proofs.Common.{◌∙◌, None, Option, ap, refl, sym}
use Rattle.std.specs.Option.{option_or}
use Rattle.netlink_core.specs.declared.error.DecodeError.{DecodeError}
use Rattle.sockdiag_c.specs.Family.{ReplyParts, optional_code}
use Rattle.sockdiag_c.proofs.Rows.{are_parts, no_error_of_kind}
use Rattle.sockdiag_c.proofs.details.store_lenient_details.Goals as goal

pub returns-then-set_valid_values : goal.returns-then-set_valid_values
returns-then-set_valid_values g c = (
  λ ok.
      let family = g.T.ReplyDetails.family in
      let head = c.in-Ok.ensures in
      let none = c.default.ensures in
      let all = c.set_valid_values.ensures.values head.values c.if-set_valid_values.true in
      let first = ap (λ (o : Option DecodeError). optional_code (option_or o None)) all.2 in
      let parts : ReplyParts family.Header = record {
        header = family.header c.in-Ok.parts.0;
        attributes = all.0;
        framing_error = None;
      } in (
        (
          parts,
          are_parts family _ _ _ parts head.header head.rest all.1 refl,
          (c.set_valid_values.ensures.header, all.3),
          (
            none.0 ∙ sym first,
            none.1.0,
            λ k below. none.1.1.at k 0 below
                ∙ sym (ap optional_code (no_error_of_kind family k all.0 all.2)),
          ),
        ),
        c.copy_padded.ensures,
      ),
  λ bad. absurd (bad refl),
)

pub returns-else-set_valid_values : goal.returns-else-set_valid_values
returns-else-set_valid_values g c = (
  λ ok.
      let head = c.in-Ok.ensures in
      let parts = c.set_values.ensures in
      let header = parts.2 ∙ c.set_valid_values.ensures.header in (
        (
          parts.0,
          are_parts g.T.ReplyDetails.family _ _ _ parts.0 head.header head.rest parts.1 header,
          parts.3,
          parts.4,
        ),
        c.copy_padded.ensures,
      ),
  λ bad. absurd (bad refl),
)
