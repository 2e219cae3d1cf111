-- The text of a reply about a UNIX socket: thirteen values separated by one space.
use Rattle.std.specs.Prelude.{◌==◌, if◌then◌else◌, ℕ, List, [], ◌∷◌, ◌++◌, length, map, codes}
use Rattle.std.specs.Prelude.{decimal, Option, option_map, unwrap_or}
use Rattle.std.specs.List.{join_by, join_with_byte}
use Rattle.netlink_core.specs.AttributeSet.{value_of_kind}
use Rattle.sock_diag_attributes.specs.declared.unix.name.SocketName.{SocketName}
use Rattle.sock_diag_attributes.specs.declared.unix.name.SocketName.TheVariants.{Abstract, Pathname}
use Rattle.sock_diag_attributes.specs.UnixAttributes.{unix_attribute_set}
use Rattle.sock_diag_records.specs.declared.constants.TheConstants as c
use Rattle.netlink_core.specs.Response.{ReplyValue}
use Rattle.sock_diag_replies.specs.UnixGetters.{first_content_of, listening_queue_of}
use Rattle.sock_diag_replies.specs.UnixGetters.{nonlistening_queue_of}
use Rattle.sock_diag_replies.specs.UnixResponseSpec.{unix_response_spec}
use Rattle.sock_diag_lines.specs.HexField.{hex_field_of, space}

-- `or_none text_of found`: the text of the value that was found; `none` if the reply does not have
-- the value, which is of any type
abbrev pub or_none : {Value : Type 0} → (Value → List ℕ) → Option Value → List ℕ
or_none text_of found = unwrap_or (option_map text_of found) (codes "none")

-- `value_field text_of found`: a space, and then the text of the value that was found, or `none`
abbrev pub value_field : {Value : Type 0} → (Value → List ℕ) → Option Value → List ℕ
value_field text_of found = space ∷ or_none text_of found

-- `socket_name_text name`: `path:` for a pathname, `abstract:` for an abstract name; and the bytes
-- of the name as a hex field
abbrev pub socket_name_text : SocketName (List ℕ) → List ℕ
socket_name_text (Pathname path) = codes "path:" ++ hex_field_of path
socket_name_text (Abstract address) = codes "abstract:" ++ hex_field_of address

-- `comma_list numbers`: the numbers in decimal, separated by commas; `-` for an empty list
abbrev pub comma_list : List ℕ → List ℕ
comma_list numbers =
    if length numbers == 0 then codes "-" else join_by decimal (codes ",") numbers

-- `reply_text reply`: thirteen values of the reply, separated by one space. A value that the reply
-- does not have is `none`.
-- - 1 to 3: `udiag_type`, `udiag_state` and `udiag_ino` of the header
-- - 4 to 6: UNIX_DIAG_PEER, UNIX_DIAG_NAME and UNIX_DIAG_ICONS
-- - 7: UNIX_DIAG_SHUTDOWN
-- - 8 and 9: the two numbers of UNIX_DIAG_RQLEN, `udiag_rqueue` and `udiag_wqueue`, if the state is
--   TCP_LISTEN; `none` in any other state
-- - 10 and 11: the same two numbers, if the state is not TCP_LISTEN; else `none`
-- - 12 and 13: the numbers SK_MEMINFO_SNDBUF (`max_datagram_size`) and SK_MEMINFO_WMEM_QUEUED
--   (`alloc`) of UNIX_DIAG_MEMINFO
-- `found kind` is the value of the first attribute of this type, and `both` are the two numbers of
-- a pair.
abbrev pub reply_text : ReplyValue unix_response_spec → List ℕ
reply_text reply = let found = λ (kind : ℕ).
    first_content_of (value_of_kind unix_attribute_set kind) reply.nlas in
    let both = λ (pair : Option (ℕ × ℕ)).
    option_map (λ numbers. numbers.0) pair ∷ option_map (λ numbers. numbers.1) pair ∷ [] in
    join_with_byte space (map decimal (reply.header.kind ∷ reply.header.state
    ∷ reply.header.inode ∷ [])
    ++ or_none decimal (found c.UNIX_DIAG_PEER) ∷ or_none socket_name_text (found c.UNIX_DIAG_NAME)
    ∷ or_none comma_list (found c.UNIX_DIAG_ICONS)
    ∷ map (or_none decimal) (found c.UNIX_DIAG_SHUTDOWN
    ∷ both (listening_queue_of reply) ++ both (nonlistening_queue_of reply)
    ++ option_map (λ info. info.max_datagram_size) (found c.UNIX_DIAG_MEMINFO)
    ∷ option_map (λ info. info.alloc) (found c.UNIX_DIAG_MEMINFO) ∷ []))
