use Rattle.sock_diag_replies.proofs.response.ReplyNlaEmitable.buffer_len.Goals as goal

pub fitting_reply_len-requires-clause-header : goal.fitting_reply_len-requires-clause-header
fitting_reply_len-requires-clause-header g c = g.met.H.ReplyOwned.always_writable _

pub fitting_reply_len-requires-clause-fits : goal.fitting_reply_len-requires-clause-fits
fitting_reply_len-requires-clause-fits g c =
    rw (c.as_slice.ensures, g.met.H.ReplyOwned.bytes_by_codec c.args.self.now.header) c.requires

pub returns : goal.returns
returns g c =
    rw (c.as_slice.ensures, g.met.H.ReplyOwned.bytes_by_codec c.args.self.now.header)
    at c.fitting_reply_len.ensures
