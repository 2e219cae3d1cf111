-- The model of a reply about a socket of any family: what contracts see of it.
use Rattle.std.specs.Prelude.{ℕ, List}
use Rattle.sock_diag_any.specs.declared.header.AnyHeader.{AnyHeader}
use Rattle.sock_diag_any.specs.declared.reply.AnyReply.{AnyReply}

-- the header of a reply
abbrev pub reply_header : AnyReply → AnyHeader
reply_header reply = reply.header

-- the bytes of a reply
abbrev pub reply_bytes : AnyReply → List ℕ
reply_bytes reply = reply.payload.now
