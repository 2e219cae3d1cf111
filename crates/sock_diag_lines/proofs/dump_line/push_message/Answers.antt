use Rattle.std.proofs.Common.{refl}
use Rattle.std.proofs.lemmas.Result.{on_ok_weaker}
use Rattle.netlink_packet_sock_diag.specs.MessageViewModel.{message_view_model}
use Rattle.sock_diag_lines.specs.declared.dump_line.ReadDump.{ReadDump}
use Rattle.sock_diag_lines.proofs.DumpLaws.{message_is_added}
use Rattle.sock_diag_lines.proofs.dump_line.push_message.Goals as goal

pub returns : goal.returns
returns c =
    let old = c.args.dump.now in
    let new : ReadDump = record {
      end = old.end;
      is_writable = old.is_writable;
      lengths = c.push.new.self;
      bytes = c.push_bytes.new.bytes;
      buffer = c.push_bytes.new.buffer;
    } in
    let lengths = rw c.in-Some.ensures.1 at c.in_ok-push.ensures.items in
    on_ok_weaker c.push_bytes.result
    (λ added. (
      refl,
      message_is_added old new (message_view_model c.args.message.now)
          c.if-not-dump.false c.if-not-dump.false c.in-Some.ensures.0 lengths added,
    ))
    c.push_bytes.ensures
