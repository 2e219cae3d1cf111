-- The model of a reply about a UNIX socket.
use Rattle.std.specs.Prelude.{ℕ, Vec}
use Rattle.std.specs.declared.alloc.Global.{Global}
use Rattle.netlink_core.specs.declared.nla.DefaultNla.{DefaultNla}
use Rattle.netlink_core.specs.Response.{ReplyValue}
use Rattle.sock_diag_attributes.specs.UnixModel.{unix_nla_model}
use Rattle.sock_diag_attributes.specs.declared.unix.name.SocketName.{SocketName}
use Rattle.sock_diag_attributes.specs.declared.unix.nlas.UnixNla.{UnixNla}
use Rattle.sock_diag_records.specs.declared.unix.response.UnixResponseHeader.{UnixResponseHeader}
use Rattle.sock_diag_replies.specs.declared.response.Reply.{Reply}
use Rattle.sock_diag_replies.specs.ResponseModel.{response_model}
use Rattle.sock_diag_replies.specs.UnixResponseSpec.{unix_response_spec}

-- `unix_response_model reply`: the model of an owned reply about a UNIX socket: the same header (`λ
-- h. h`), and the model of each attribute, in which lists and names have no capacity
abbrev pub unix_response_model : Reply UnixResponseHeader
    (UnixNla (SocketName (Vec ℕ Global)) (Vec ℕ Global) DefaultNla) → ReplyValue unix_response_spec
unix_response_model = response_model (λ h. h) unix_nla_model
