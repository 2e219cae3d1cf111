use Rattle.std.proofs.Common.{◌≡◌, ◌++◌, drop, map}
use Rattle.std.specs.List.{flat_map}
use Rattle.sock_diag_examples.specs.UnixResponseModel.{unix_response_model}
use Rattle.sock_diag_examples.specs.TestKernel.{reply_message_bytes}
use Rattle.sock_diag_examples.proofs.test_kernel.push_replies.Given as goal

-- what was appended and what is left to append are the whole
abbrev pub invariant-loop-reply : goal.invariant-loop-reply
invariant-loop-reply l =
    l.datagram.items ++ flat_map (reply_message_bytes l.sequence_number)
    (map unix_response_model (drop l.reply-index l.replies))
    ≡ l.fn.datagram.items ++ flat_map (reply_message_bytes l.sequence_number)
    (map unix_response_model l.replies)
