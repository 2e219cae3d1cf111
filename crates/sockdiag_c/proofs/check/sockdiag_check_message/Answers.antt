use Rattle.std.proofs.Common.{◌∙◌, Ok, ap, inl, refl, sym}
use Rattle.netlink_packet_sock_diag.specs.MessageViewModel.{message_view_model}
use Rattle.sockdiag_c.proofs.check.sockdiag_check_message.Goals as goal

pub returns-in-Ok-UnixResponse : goal.returns-in-Ok-UnixResponse
returns-in-Ok-UnixResponse c =
    let read = c.in-Ok-UnixResponse in
    let header = c.header.ensures in
    let found = c.from-reply.ensures in
    inl (
      refl,
      (
        message_view_model read.field-0,
        read.ensures.value,
        rw (read.field-0-is, found, header) refl,
      ),
    )

pub returns-in-Ok-InetResponse : goal.returns-in-Ok-InetResponse
returns-in-Ok-InetResponse c =
    let read = c.in-Ok-InetResponse in
    let header = c.header-in-Ok-InetResponse.ensures in
    let found = c.inet_header-reply.ensures in
    inl (
      refl,
      (
        message_view_model read.field-0,
        read.ensures.value,
        rw (read.field-0-is, found, header) refl,
      ),
    )

pub inet_header-reply-requires : goal.inet_header-reply-requires
inet_header-reply-requires c =
    let read = c.in-Ok-InetResponse in
    let value = rw read.field-0-is at read.ensures.value in
    value.1.0 ∙ ap Ok (sym c.header-in-Ok-InetResponse.ensures)
