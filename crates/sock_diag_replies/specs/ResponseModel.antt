-- The model of an owned reply of any family: what contracts see of it.
use Rattle.std.specs.Prelude.{map}
use Rattle.netlink_core.specs.Response.{ResponseValue}
use Rattle.sock_diag_replies.specs.declared.response.Reply.{Reply}

-- `response_model of_header of r`: the reply `r` with the model `of_header` of its header, and the
-- model `of` of each of its attributes, in order
abbrev pub response_model : {H N V W : Type 0} → (H → V) → (N → W) → Reply H N → ResponseValue V W
response_model of_header of r = record { header = of_header r.header; nlas = map of r.nlas.items }
