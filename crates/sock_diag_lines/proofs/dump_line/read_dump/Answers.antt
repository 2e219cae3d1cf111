use Rattle.std.proofs.Common.{◌+◌, [], ◌∷◌, ◌++◌, true, Ok, refl, arith, append_assoc}
use Rattle.std.proofs.lemmas.List.{length-drop, take_rest}
use Rattle.std.specs.List.{slice_split}
use Rattle.netlink_packet_sock_diag.specs.declared.dump.DumpState.TheVariants.{Reading}
use Rattle.sock_diag_lines.specs.declared.dump_line.ReadDump.{ReadDump}
use Rattle.sock_diag_lines.specs.HexField.{is_space}
use Rattle.sock_diag_lines.proofs.DumpLaws.{reads_no_datagrams}
use Rattle.sock_diag_lines.proofs.FieldLists.{each_has_bytes}
use Rattle.sock_diag_lines.proofs.dump_line.read_dump.Goals as goal

pub fields-init : goal.fields-init
fields-init c =
    let dump : ReadDump = record {
      end = Ok Reading;
      is_writable = true;
      lengths = c.new.result;
      bytes = c.in_ok-serialized.serialized;
      buffer = c.new-2.result;
    } in
    record {
      datagrams = [];
      read = reads_no_datagrams dump refl refl c.new.ensures.items
          c.in_ok-serialized.ensures.items;
      before = λ more each. each;
      behind = each_has_bytes (slice_split is_space c.args.fields.now);
      within = omega arith;
    }

pub fields-preserved : goal.fields-preserved
fields-preserved c =
    let inv = c.fields.invariant in
    let rest = c.fields.rest.now in
    let i = c.in-Some.space in
    let split = c.in-Some.ensures.fields in
    let left = take_rest rest (i + 1) in
    let taken = rw c.if-not-branch.false at c.in_ok-feed_field.ensures in
    record {
      datagrams = inv.datagrams ++ taken.0 ∷ [];
      read = taken.2 inv.datagrams inv.read;
      before = λ more each. rw append_assoc
          (inv.before (taken.0 ∷ more) (rw split (taken.1, rw left at each)));
      behind = λ all each. rw left (rw split at (inv.behind all each)).1;
      within = rw left (omega (arith, inv.within, length-drop (i + 1) rest));
    }

pub returns-then-branch : goal.returns-then-branch
returns-then-branch c =
    let inv = c.fields.invariant in
    let taken = rw c.if-branch.true at c.in_ok-feed_field-2.ensures in
    let each = inv.before (taken.0 ∷ []) (rw c.in_default.ensures (taken.1, tt)) in
    (inv.datagrams ++ taken.0 ∷ [], each, taken.2 inv.datagrams inv.read)
