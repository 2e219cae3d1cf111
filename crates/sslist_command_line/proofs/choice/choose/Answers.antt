use Rattle.std.proofs.Common.{refl, rules, ap, sym, map, string_bytes, option_map}
use Rattle.sslist_command_line.specs.Choice.{ParsedArgument, options_after}
use Rattle.sslist_command_line.specs.declared.arguments.Place.TheVariants as place
use Rattle.sslist_command_line.specs.declared.options.Options.{Options}
use Rattle.sslist_command_line.proofs.Choosing.{argument_is_added, first_deciding_argument_found}
use Rattle.sslist_command_line.proofs.Choosing.{argument_does_not_decide}
use Rattle.sslist_command_line.proofs.choice.choose.Goals as goal

pub loop-argument-init : goal.loop-argument-init
loop-argument-init c = record {
  first = refl;
  last = refl;
  options = ap
      (λ (o : Options). options_after o place.Any (map string_bytes c.args.arguments.now))
      (search rules);
}

pub returns-in-Help : goal.returns-in-Help
returns-in-Help c =
    let kind = rw c.as_bytes.ensures.value at c.argument_at-parsed.ensures in
    let found = first_deciding_argument_found string_bytes _ _ _ _ _ _ _ c.loop-argument.invariant
    c.loop-argument-test.true c.argument-item.is refl kind (rw c.in-Help.is refl) in
    rw c.in-Help.is at (ap (option_map (λ (a : ParsedArgument). a.parsed)) found)

pub returns-in-Version : goal.returns-in-Version
returns-in-Version c =
    let kind = rw c.as_bytes.ensures.value at c.argument_at-parsed.ensures in
    let found = first_deciding_argument_found string_bytes _ _ _ _ _ _ _ c.loop-argument.invariant
    c.loop-argument-test.true c.argument-item.is refl kind (rw c.in-Version.is refl) in
    rw c.in-Version.is at (ap (option_map (λ (a : ParsedArgument). a.parsed)) found)

pub returns-in-Rejected : goal.returns-in-Rejected
returns-in-Rejected c =
    let kind = rw c.as_bytes.ensures.value at c.argument_at-parsed.ensures in
    let found = first_deciding_argument_found string_bytes _ _ _ _ _ _ _ c.loop-argument.invariant
    c.loop-argument-test.true c.argument-item.is refl kind (rw c.in-Rejected.is refl) in
    rw (c.in-Rejected.is, sym c.as_str.ensures.value) at found

pub loop-argument-preserved : goal.loop-argument-preserved
loop-argument-preserved c =
    let kind = rw c.as_bytes.ensures.value at c.argument_at-parsed.ensures in
    argument_is_added string_bytes _ _ _ _ _ _ _ _ _ c.loop-argument.invariant
    c.loop-argument-test.true c.argument-item.is refl kind
    (argument_does_not_decide _ c.in_default.not-Help c.in_default.not-Version
    c.in_default.not-Rejected)
    (rw c.as_bytes-in_default.ensures.value at c.add_argument.ensures)
    c.next_place-place.ensures
