-- The model of a borrowed reply of any family and of its iterator: what contracts see of them. `H`
-- is the type of the header, and `of` are the ghost members of its `ReplyHeader`: `of.reply` is the
-- format of the replies, and `of.reply.size` the number of the header's bytes.
use Rattle.std.specs.Prelude.{ℕ, List, drop}
use Rattle.netlink_core.specs.Response.{ReplyValue}
use Rattle.netlink_core.specs.Walk.{unread_bytes}
use Rattle.sock_diag_replies.specs.declared.view.AttributeViews.{AttributeViews}
use Rattle.sock_diag_replies.specs.declared.view.ReplyHeader.{Ghosts}
use Rattle.sock_diag_replies.specs.declared.view.ReplyView.{ReplyView}
use Rattle.attribute_lists.specs.AttributesIn.{reply_after}

-- all bytes of the reply
abbrev pub view_bytes : {H : Type 0} {of : Ghosts H} → ReplyView H of → List ℕ
view_bytes view = view.bytes.now

-- the bytes after the header
abbrev pub bytes_after_header : {H : Type 0} {of : Ghosts H} → ReplyView H of → List ℕ
bytes_after_header {of = of} view = drop of.reply.size (view_bytes view)

-- `view_model view`: the header that the bytes start with, and what each attribute after it decodes
-- to, in order. `view.head.0` is the header by the invariant `head` of `ReplyView`.
abbrev pub view_model : {H : Type 0} {of : Ghosts H} → ReplyView H of → ReplyValue of.reply
view_model {of = of} view = reply_after of.reply view.head.0 (bytes_after_header view)

-- the bytes that the iterator over attributes has not read yet
abbrev pub unread_attributes : {H : Type 0} {of : Ghosts H} → AttributeViews H of → List ℕ
unread_attributes views = unread_bytes views.walk
