use Rattle.sock_diag_replies.proofs.response.ReplyNlaEmitable.writable_len.Goals as goal

pub reply_len-requires : goal.reply_len-requires
reply_len-requires g c = g.met.H.ReplyOwned.always_writable _

pub returns : goal.returns
returns g c =
    rw (c.as_slice.ensures, g.met.H.ReplyOwned.bytes_by_codec c.args.self.now.header)
    at c.reply_len.ensures
