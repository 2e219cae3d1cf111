use Rattle.netlink_packet_sock_diag.specs.laws.Message.{read_reply}
use Rattle.netlink_packet_sock_diag.proofs.laws.parsed_messages_are_replies.Goals as goal

pub returns : goal.returns
returns c = λ b t m r. (read_reply b t m r).1
