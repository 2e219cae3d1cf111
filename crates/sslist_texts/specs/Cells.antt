-- Cells of a line of the table. Texts are lists of ASCII codes.
use Rattle.std.specs.Prelude.{ℕ, ◌==◌, ◌&&◌, if◌then◌else◌, Bool, false, not, List, [], ◌∷◌, ◌++◌}
use Rattle.std.specs.Prelude.{◌+◌, ◌-◌, bytes_eq, codes, decimal, length, replicate, Option}
use Rattle.std.specs.Prelude.{slice_get, unwrap_or}
use Rattle.std.specs.Option.{option_map_or}
use Rattle.std.specs.declared.net.ip_addr.IpAddr.{IpAddr}
use Rattle.std.specs.declared.net.ip_addr.IpAddr.TheVariants.{V4, V6}
use Rattle.std.specs.Net.Addr.{ipv6_segments}
use Rattle.std.specs.Net.Text.{ip_text, scope_text}
use Rattle.sslist_texts.specs.declared.cells.TheConstants.{INODE_WIDTH, NETID_WIDTH}
use Rattle.sslist_texts.specs.declared.cells.TheConstants.{QUEUE_WIDTH, STATE_WIDTH}
use Rattle.sslist_texts.specs.declared.cells.TheConstants.{UID_WIDTH}

-- `column_padding width used`: the spaces (32) after the content of a column, which is `used` wide:
-- up to the width, and one more
abbrev pub column_padding : ℕ → ℕ → List ℕ
column_padding width used = replicate (width - used + 1) 32

-- `column width content`: the content, padded with spaces to a width, and one more space. Longer
-- content is not cut.
abbrev pub column : ℕ → List ℕ → List ℕ
column width content = content ++ column_padding width (length content)

-- a number in decimal, or `-` for None
abbrev pub number_cell : Option ℕ → List ℕ
number_cell number = option_map_or decimal number (codes "-")

-- the names of the socket states 0 to 11 as ss(8) prints them, in the order of the kernel's numbers
abbrev pub state_names : List (List ℕ)
state_names =
    codes "UNKNOWN" ∷ codes "ESTAB" ∷ codes "SYN-SENT" ∷ codes "SYN-RECV" ∷ codes "FIN-WAIT-1"
    ∷ codes "FIN-WAIT-2" ∷ codes "TIME-WAIT" ∷ codes "UNCONN" ∷ codes "CLOSE-WAIT"
    ∷ codes "LAST-ACK" ∷ codes "LISTEN" ∷ codes "CLOSING" ∷ []

-- the name of a socket state, UNKNOWN from 12 on
abbrev pub state_name : ℕ → List ℕ
state_name state = unwrap_or (slice_get state_names state) (codes "UNKNOWN")

-- a number in decimal, such as the inode of a UNIX socket's peer, or `*` for None
abbrev pub number_or_star : Option ℕ → List ℕ
number_or_star number = option_map_or decimal number (codes "*")

-- an address, in brackets (91 and 93) if it is an IPv6 address
abbrev pub bracketed_address : IpAddr → List ℕ
bracketed_address (V4 ip) = ip_text (V4 ip)
bracketed_address (V6 ip) = 91 ∷ ip_text (V6 ip) ++ 93 ∷ []

-- the address is `::`, whose eight segments are 0
abbrev pub is_any_v6 : IpAddr → Bool
is_any_v6 (V4 ip) = false
is_any_v6 (V6 ip) =
    bytes_eq (ipv6_segments ip) (0 ∷ 0 ∷ 0 ∷ 0 ∷ 0 ∷ 0 ∷ 0 ∷ 0 ∷ [])

-- `shown_address is_v6_only address`: an address of a socket, as ss(8) prints it: `*` for `::` of a
-- socket that is not known to be for IPv6 only (`is_v6_only`), or else `bracketed_address`
abbrev pub shown_address : Bool → IpAddr → List ℕ
shown_address is_v6_only address =
    if is_any_v6 address && not is_v6_only then codes "*" else bracketed_address address

-- a port in decimal, or `*` for 0
abbrev pub port_text : ℕ → List ℕ
port_text port = if port == 0 then codes "*" else decimal port

-- `endpoint is_v6_only address interface port`: an address (`shown_address`), a scope, a colon (58)
-- and a port. The scope is `%` and the interface number, or nothing if the number is 0.
abbrev pub endpoint : Bool → IpAddr → ℕ → ℕ → List ℕ
endpoint is_v6_only address interface port =
    shown_address is_v6_only address ++ scope_text interface ++ 58 ∷ port_text port

-- The content of the first columns of a line: Netid, State, Recv-Q, Send-Q, Inode and Uid. None
-- means that the reply does not contain the value.
pub record FirstColumns : Type 0 where
  -- the column Netid
  pub kind : List ℕ
  -- the column State
  pub state : List ℕ
  -- the column Recv-Q
  pub receive_queue : Option ℕ
  -- the column Send-Q
  pub send_queue : Option ℕ
  -- the column Inode
  pub inode : ℕ
  -- the column Uid
  pub uid : Option ℕ

-- the first columns of a line, each padded to its width, and with one more space
abbrev pub first_columns : FirstColumns → List ℕ
first_columns cells =
    column NETID_WIDTH cells.kind
    ++ column STATE_WIDTH cells.state
    ++ column QUEUE_WIDTH (number_cell cells.receive_queue)
    ++ column QUEUE_WIDTH (number_cell cells.send_queue)
    ++ column INODE_WIDTH (decimal cells.inode)
    ++ column UID_WIDTH (number_cell cells.uid)
