-- The header of a reply about a UNIX socket, 16 bytes.
use Rattle.std.specs.Prelude.{◌≡◌, [], ◌∷◌, length}
use Rattle.netlink_core.specs.Rows.{skip, u8, u32, u8s}
use Rattle.netlink_core.specs.Layout.{Layout, plain}
use Rattle.netlink_core.specs.declared.error.RecordName.TheVariants as name
use Rattle.sock_diag_records.specs.declared.constants.TheConstants.{AF_UNIX}
use Rattle.sock_diag_records.specs.declared.unix.response.UnixResponseHeader.{UnixResponseHeader}
use Rattle.sock_diag_records.specs.inverse.UnixResponseHeader.{unix_response_header_of}

-- `struct unix_diag_msg` (linux/unix_diag.h), by offsets:
--   0  `udiag_family`: ignored, and serialized as AF_UNIX
--   1  `udiag_type`
--   2  `udiag_state`
--   3  `pad`: ignored, and serialized as 0
--   4  `udiag_ino`
--   8  `udiag_cookie`: eight bytes
-- Arguments of `plain`: the name in errors, the length in bytes, the rows, their inverse, and the
-- condition on arrays: the cookie has eight bytes. The types `Unit {0}`: there is no parameter, and
-- only one tag.
abbrev pub unix_response_header : Layout (Unit {0}) (Unit {0}) UnixResponseHeader
unix_response_header = plain name.UnixResponseHeader 16 (
    skip 0 (AF_UNIX ∷ []) ∷
    u8 1 UnixResponseHeader.kind ∷
    u8 2 UnixResponseHeader.state ∷
    skip 3 (0 ∷ []) ∷
    u32 4 UnixResponseHeader.inode ∷
    u8s 8 8 UnixResponseHeader.cookie ∷ [])
    unix_response_header_of (λ value. length value.cookie ≡ 8)
