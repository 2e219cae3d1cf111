use Rattle.std.proofs.Common.{arith}
use Rattle.sock_diag_replies.specs.UnixResponseSpec.{unix_response_spec}
use Rattle.sock_diag_replies.specs.laws.UnixResponseSpec.{unix_response_laws}
use Rattle.sock_diag_replies.specs.InetResponseSpec.{inet_response_spec}
use Rattle.sock_diag_replies.specs.laws.InetResponseSpec.{inet_response_laws}
use Rattle.netlink_packet_sock_diag.proofs.Lengths.{reply_multiple}
use Rattle.netlink_packet_sock_diag.proofs.laws.reply_lengths_are_multiples_of_four.Goals as goal

pub returns : goal.returns
returns c =
    grind (
      arith,
      reply_multiple unix_response_spec unix_response_laws,
      unix_response_laws,
      reply_multiple inet_response_spec inet_response_laws,
      inet_response_laws,
    )
