-- A text after some values of a reply were appended, each after a space.
use Rattle.std.specs.Prelude.{List, ℕ, ◌++◌, decimal, option_map}
use Rattle.netlink_core.specs.AttributeSet.{value_of_kind}
use Rattle.sock_diag_attributes.specs.UnixAttributes.{unix_attribute_set}
use Rattle.sock_diag_records.specs.declared.constants.TheConstants as c
use Rattle.netlink_core.specs.Response.{ReplyValue}
use Rattle.sock_diag_replies.specs.UnixGetters.{first_content_of, listening_queue_of}
use Rattle.sock_diag_replies.specs.UnixGetters.{nonlistening_queue_of}
use Rattle.sock_diag_replies.specs.UnixResponseSpec.{unix_response_spec}
use Rattle.sock_diag_lines.specs.ViewLine.{comma_list, socket_name_text, value_field}

-- `with_socket_details text reply`: the text, and then the peer, the name, the inodes of the
-- pending connections, and the directions that are shut down. `found kind` is the value of the
-- first attribute of this type.
abbrev pub with_socket_details : List ℕ → ReplyValue unix_response_spec → List ℕ
with_socket_details text reply =
    let found = λ (kind : ℕ).
    first_content_of (value_of_kind unix_attribute_set kind) reply.nlas in
    text ++ value_field decimal (found c.UNIX_DIAG_PEER)
    ++ value_field socket_name_text (found c.UNIX_DIAG_NAME)
    ++ value_field comma_list (found c.UNIX_DIAG_ICONS)
    ++ value_field decimal (found c.UNIX_DIAG_SHUTDOWN)

-- `with_queues text reply`: the text, and then the queue lengths: two values of a socket that
-- listens, and two values of any other socket; two of the four are always `none`
abbrev pub with_queues : List ℕ → ReplyValue unix_response_spec → List ℕ
with_queues text reply =
    text ++ value_field decimal (option_map (λ queue. queue.0) (listening_queue_of reply))
    ++ value_field decimal (option_map (λ queue. queue.1) (listening_queue_of reply))
    ++ value_field decimal (option_map (λ queue. queue.0) (nonlistening_queue_of reply))
    ++ value_field decimal (option_map (λ queue. queue.1) (nonlistening_queue_of reply))

-- `with_memory text reply`: the text, and then SK_MEMINFO_SNDBUF (`max_datagram_size`) and
-- SK_MEMINFO_WMEM_QUEUED (`alloc`) of UNIX_DIAG_MEMINFO
abbrev pub with_memory : List ℕ → ReplyValue unix_response_spec → List ℕ
with_memory text reply = let memory =
    first_content_of (value_of_kind unix_attribute_set c.UNIX_DIAG_MEMINFO) reply.nlas in
    text ++ value_field decimal (option_map (λ info. info.max_datagram_size) memory)
    ++ value_field decimal (option_map (λ info. info.alloc) memory)
