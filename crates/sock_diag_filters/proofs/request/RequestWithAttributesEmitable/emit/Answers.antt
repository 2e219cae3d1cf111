use Rattle.std.proofs.lemmas.Grind.{common_steps}
use Rattle.std.proofs.Common.{arith}
use Rattle.std.specs.Prelude.{map}
use Rattle.sock_diag_records.specs.laws.InetRequest.{inet_request_length}
use Rattle.sock_diag_filters.specs.Requests.{request_attribute}
use Rattle.sock_diag_filters.proofs.Requesting.{message_parts_are_written, request_message_length}
use Rattle.sock_diag_filters.proofs.request.RequestWithAttributesEmitable.emit.Goals as goal

pub split_at_mut-front-requires : goal.split_at_mut-front-requires
split_at_mut-front-requires c =
    let request = c.args.self.now in
    let long = request_message_length request.header request.request
    (map request_attribute request.attributes.now) in
    omega (arith, long, c.requires.room)

pub overflow_cast-len : goal.overflow_cast-len
overflow_cast-len c =
    let request = c.args.self.now in
    let long = request_message_length request.header request.request
    (map request_attribute request.attributes.now) in
    omega (arith, long, c.buffer_len-len.ensures, c.requires.writable.1)

pub write_front-requires-clause-whole : goal.write_front-requires-clause-whole
write_front-requires-clause-whole c = omega (arith, inet_request_length c.args.self.now.request)

pub emit_nlas-requires-clause-room : goal.emit_nlas-requires-clause-room
emit_nlas-requires-clause-room c =
    grind (arith, common_steps, request_message_length)

pub returns-clause-written : goal.returns-clause-written
returns-clause-written c =
    let request = c.args.self.now in
    message_parts_are_written request.header request.request
    (map request_attribute request.attributes.now) _ _ _ _ _
    c.buffer_len-len.ensures c.write_front.ensures.written c.emit_nlas.ensures.written
    c.split_at_mut-front.ensures.back
