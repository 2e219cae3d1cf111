use Rattle.std.proofs.Common.{◌≡◌, ◌∙◌, [], ◌++◌, length, arith, ap, rules}
use Rattle.byteorder.specs.Endian.{little_bytes}
use Rattle.std.proofs.lemmas.List.{append-nil}
use Rattle.sock_diag_records.specs.laws.InetRequest.{inet_request_length}
use Rattle.sockdiag_c.proofs.InetRequestBytes.{an_attribute, message_written, no_attribute}
use Rattle.sockdiag_c.proofs.requests.write_inet.Goals as goal

pub write_message-requires-clause-small : goal.write_message-requires-clause-small
write_message-requires-clause-small c =
    omega (arith, inet_request_length c.inet_record-record.result)

pub returns-then-request-lt256 : goal.returns-then-request-lt256
returns-then-request-lt256 c = (
  λ family.
      message_written _ c.args.request.now _ _ _ _ _ _ c.inet_record-record.ensures
      (no_attribute _ c.if-request-lt256.true) c.write_message.ensures,
  search rules,
)

pub write_message-requires-2-clause-small : goal.write_message-requires-2-clause-small
write_message-requires-2-clause-small c =
    let word : c.write_u32.new.buf ++ [] ≡ little_bytes 4 c.args.request.now.protocol =
    append-nil c.write_u32.new.buf ∙ c.write_u32.ensures in
    omega (arith, inet_request_length c.inet_record-record.result, ap length word)

pub returns : goal.returns
returns c = (
  λ family.
      let word : c.write_u32.new.buf ++ [] ≡ little_bytes 4 c.args.request.now.protocol =
      append-nil c.write_u32.new.buf ∙ c.write_u32.ensures in
      message_written _ c.args.request.now _ _ _ _ _ _ c.inet_record-record.ensures
      (an_attribute _ _ c.if-request-lt256.false word) c.write_message-2.ensures,
  search rules,
)
