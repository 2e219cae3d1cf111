-- What is written for a socket: the lines of the table, or with `--json` a line of JSON, if the
-- options select the socket. `list` is the number of the list of the socket, and `s` is what the
-- reply has in its attributes.
use Rattle.std.specs.Prelude.{ℕ, if◌then◌else◌, List, []}
use Rattle.sock_diag_records.specs.declared.unix.response.UnixResponseHeader.{UnixResponseHeader}
use Rattle.sslist_texts.specs.JsonData.{JsonMember}
use Rattle.sslist_lister.specs.declared.line.InetSocket.{InetSocket}
use Rattle.sslist_command_line.specs.Options.{lists_family, lists_unix}
use Rattle.sslist_command_line.specs.declared.options.Options.{Options}
use Rattle.sslist_lister.specs.Collected.{Summary}
use Rattle.sslist_lister.specs.JsonAttributes.{socket_json}
use Rattle.sslist_lister.specs.JsonSockets.{inet_header_members, unix_header_members}
use Rattle.sslist_lister.specs.Others.{other_lines}
use Rattle.sslist_lister.specs.Selection.{lists_inet}
use Rattle.sslist_lister.specs.Table.{inet_lines, unix_lines}
use Rattle.sslist_lister.specs.declared.others.OtherSocket.{OtherSocket}

-- `unix_output o list h s`: what is written for a UNIX socket with the header `h`
abbrev pub unix_output : Options → ℕ → UnixResponseHeader → Summary → List ℕ
unix_output o list h s =
    if lists_unix o h.state
    then (if o.json then socket_json list (unix_header_members h) s else unix_lines o h s) else []

-- `inet_output o list socket s`: what is written for the IPv4 or IPv6 socket `socket`
abbrev pub inet_output : Options → ℕ → InetSocket → Summary → List ℕ
inet_output o list socket s =
    if lists_inet o socket s
    then (if o.json
    then socket_json list (inet_header_members socket) s
    else inet_lines o socket s) else []

-- `other_output o list socket header s`: what is written for a netlink, packet, vsock or XDP
-- socket, whose header has the members `header` in JSON
abbrev pub other_output : Options → ℕ → OtherSocket → List JsonMember → Summary → List ℕ
other_output o list socket header s =
    if lists_family o socket.family socket.state
    then (if o.json then socket_json list header s else other_lines o socket s) else []
