use Rattle.sock_diag_replies.proofs.response.ReplyNlaEmitable.emit.Goals as goal

pub emit_reply-requires-clause-header : goal.emit_reply-requires-clause-header
emit_reply-requires-clause-header g c = g.met.H.ReplyOwned.always_writable _

pub emit_reply-requires-clause-fits : goal.emit_reply-requires-clause-fits
emit_reply-requires-clause-fits g c =
    rw (c.as_slice.ensures, g.met.H.ReplyOwned.bytes_by_codec c.args.self.now.header)
    c.requires.writable

pub emit_reply-requires-clause-room : goal.emit_reply-requires-clause-room
emit_reply-requires-clause-room g c =
    rw (c.as_slice.ensures, g.met.H.ReplyOwned.bytes_by_codec c.args.self.now.header)
    c.requires.room

pub returns-clause-written : goal.returns-clause-written
returns-clause-written g c =
    rw (c.as_slice.ensures, g.met.H.ReplyOwned.bytes_by_codec c.args.self.now.header)
    at c.emit_reply.ensures.written

pub returns-clause-in_range : goal.returns-clause-in_range
returns-clause-in_range g c = (
  g.met.H.ReplyOwned.in_range_by_codec _ c.emit_reply.ensures.header_in_range,
  rw c.as_slice.ensures at c.emit_reply.ensures.attributes_in_range,
)
