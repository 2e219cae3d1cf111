use Rattle.std.proofs.Common.{◌≡◌, ◌∙◌, ◌++◌, ◌∷◌, ℕ, List, None, Some, Option, [], ap, refl, sym}
use Rattle.std.specs.Prelude.{slice_index}
use Rattle.std.specs.Option.{option_or}
use Rattle.std.specs.Result.{result_err}
use Rattle.netlink_core.specs.Walk.{buffered_attribute}
use Rattle.netlink_core.specs.declared.error.DecodeError.{DecodeError}
use Rattle.sock_diag_replies.specs.UnixGetters.{first_content_of}
use Rattle.sockdiag_c.specs.Family.{error_of_kind, optional_code, value_error}
use Rattle.sockdiag_c.proofs.Rows.{all_attributes, first_after, first_unchanged, kind_after}
use Rattle.sockdiag_c.proofs.Rows.{kind_unchanged, no_attributes_yet, one_more_attribute, or_none}
use Rattle.sockdiag_c.proofs.Rows.{until_framing_error, values_after, values_unchanged}
use Rattle.sockdiag_c.proofs.details.set_values.Goals as goal

pub loop-item-init : goal.loop-item-init
loop-item-init g c = let none = c.default-errors.ensures in record {
  so_far = [];
  walk = no_attributes_yet _ _
      (rw (c.into_iter-item-iterator.ensures.into_iter_gives, c.new-item-items.ensures) refl);
  header = c.clear_values.ensures.header;
  values = c.clear_values.ensures.values;
  first = none.0;
  code = none.1.0 ∙ sym (ap optional_code none.0);
  framing = none.1.1.0;
  kinds = λ k below. none.1.1.1.at k 0 below;
}

pub loop-item-preserved-in-Ok-read : goal.loop-item-preserved-in-Ok-read
loop-item-preserved-in-Ok-read g c =
    let family = g.T.ReplyDetails.family in
    let inv = c.loop-item.invariant in
    let a = buffered_attribute c.in-Ok.nla in
    let start = rw c.in-Ok.is at c.in-Some.ensures.steps in
    let is = sym c.in-Ok-read.ensures in
    let fine : value_error family a ≡ None = ap result_err is in
    record {
      so_far = inv.so_far ++ a ∷ [];
      walk = one_more_attribute _ _ _ a inv.so_far start inv.walk;
      header = c.set.ensures.header ∙ inv.header;
      values = values_after family.read family.rows _ _ inv.so_far a _ is c.set.ensures.values
          inv.values;
      first = inv.first ∙ first_unchanged (value_error family) inv.so_far a fine;
      code = inv.code;
      framing = inv.framing;
      kinds = λ k below. inv.kinds k below ∙ ap optional_code
          (kind_unchanged family k inv.so_far a fine);
    }

pub loop-item-preserved : goal.loop-item-preserved
loop-item-preserved g c =
    let family = g.T.ReplyDetails.family in
    let inv = c.loop-item.invariant in
    let a = buffered_attribute c.in-Ok.nla in
    let e = c.in-Err-read.error in
    let start = rw c.in-Ok.is at c.in-Some.ensures.steps in
    let is = sym c.in-Err-read.ensures in
    let error : value_error family a ≡ Some e = ap result_err is in
    record {
      so_far = inv.so_far ++ a ∷ [];
      walk = one_more_attribute _ _ _ a inv.so_far start inv.walk;
      header = inv.header;
      values = values_unchanged family.read family.rows _ inv.so_far a e is inv.values;
      first = c.add_value.ensures.first ∙ first_after (value_error family) inv.so_far a _ e
          inv.first error;
      code = c.add_value.ensures.code inv.code;
      framing = c.add_value.ensures.framing ∙ inv.framing;
      kinds = λ k below. c.add_value.ensures.errors k
          (first_content_of (error_of_kind family k) inv.so_far) below (inv.kinds k below)
          ∙ ap optional_code (kind_after family k inv.so_far a _ e error c.kind.ensures);
    }

pub returns-in-Err : goal.returns-in-Err
returns-in-Err g c =
    let family = g.T.ReplyDetails.family in
    let inv = c.loop-item.invariant in
    let e = c.in-Err.error in
    let stop = rw c.in-Err.is at c.in-Some.ensures.steps in
    let first = c.add.ensures.first
    ∙ ap (λ (o : Option DecodeError). option_or o (Some e)) inv.first in (
      record {
        header = family.header c.args.details.now;
        attributes = inv.so_far;
        framing_error = Some e;
      },
      until_framing_error _ _ inv.so_far e stop.0 stop.1 inv.walk,
      refl,
      (inv.header, inv.values),
      (
        c.add.ensures.code inv.code ∙ ap optional_code first,
        c.add.ensures.others.0 ∙ c.from-errors.ensures ∙ c.number.ensures,
        λ k below. ap (λ (errors : List ℕ). slice_index errors k) c.add.ensures.others.1
            ∙ inv.kinds k below,
      ),
      first,
    )

pub returns : goal.returns
returns g c =
    let family = g.T.ReplyDetails.family in
    let inv = c.loop-item.invariant in
    let first = inv.first ∙ sym (or_none _) in (
      record {
        header = family.header c.args.details.now;
        attributes = inv.so_far;
        framing_error = None;
      },
      all_attributes _ _ inv.so_far c.in-None.ensures.steps.0 inv.walk,
      refl,
      (inv.header, inv.values),
      (inv.code ∙ ap optional_code first, inv.framing, inv.kinds),
      first,
    )
