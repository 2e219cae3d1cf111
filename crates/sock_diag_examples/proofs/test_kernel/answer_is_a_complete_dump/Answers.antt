use Rattle.sock_diag_examples.proofs.AnswerDump.{answer_is_complete_dump}
use Rattle.sock_diag_examples.proofs.test_kernel.answer_is_a_complete_dump.Goals as goal

pub returns : goal.returns
returns c = answer_is_complete_dump c.finalized_message_round_trips.ensures
    c.reply_lengths_are_multiples_of_four.ensures.unix c.items_of_concatenation.ensures
