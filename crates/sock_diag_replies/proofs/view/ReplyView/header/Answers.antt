use Rattle.sock_diag_replies.proofs.view.ReplyView.header.Goals as goal

pub unreachable-requires : goal.unreachable-requires
unreachable-requires g c = cc (c.in_default.ensures.error, c.args.self.now.head.1)

pub returns : goal.returns
returns g c = cc (c.in-Ok.ensures.value, c.args.self.now.head.1)
