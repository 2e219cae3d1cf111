use Rattle.std.proofs.Common.{◌≡◌, ◌++◌, [], OnOk, append_assoc, codes, false, if◌then◌else◌, subst}
use Rattle.std.specs.Fmt.{digits}
use Rattle.byteorder.specs.Endian.{little_number}
use Rattle.sslist_lister.proofs.parts.push_shown_cookie.Goals as goal

pub returns : goal.returns
returns c =
    subst (λ shown. OnOk c.push_hex.result (c.push_hex.new.text.items ≡ c.args.text.now.items
    ++ (if shown then codes " sk:" ++ digits 16 false (little_number 8 c.args.cookie.now)
    else []))) c.if-not-shows.ensures (rw (
      c.in_ok-extend_from_slice.ensures.items,
      append_assoc,
      c.read_u64.ensures,
    ) at c.push_hex.ensures)
