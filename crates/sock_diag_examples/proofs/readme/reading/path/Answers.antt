use Rattle.std.proofs.Common.{rules, refl}
use Rattle.netlink_packet_sock_diag.specs.MessageViewModel.{message_view_model}
use Rattle.sock_diag_examples.proofs.readme.reading.path.Goals as goal

pub returns-in-Some-Pathname-clause-value : goal.returns-in-Some-Pathname-clause-value
returns-in-Some-Pathname-clause-value c =
    let reply = c.in_ok-reply in
    (message_view_model reply.field-0, reply.ensures.value, rw c.in-UnixResponse.is (search rules))

pub returns-in_default-clause-value : goal.returns-in_default-clause-value
returns-in_default-clause-value c =
    let reply = c.in_ok-reply in
    (message_view_model reply.field-0, reply.ensures.value, rw c.in-UnixResponse.is (search rules))

pub returns-in-InetResponse-clause-value : goal.returns-in-InetResponse-clause-value
returns-in-InetResponse-clause-value c =
    let reply = c.in_ok-reply in
    (message_view_model reply.field-0, reply.ensures.value, rw c.in-InetResponse.is refl)
