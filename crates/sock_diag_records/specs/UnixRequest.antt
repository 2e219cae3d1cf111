-- A request for UNIX sockets, 24 bytes.
use Rattle.std.specs.Prelude.{◌≡◌, [], ◌∷◌, length}
use Rattle.netlink_core.specs.Rows.{skip, u32, flags32, u8s}
use Rattle.netlink_core.specs.Layout.{Layout, plain}
use Rattle.netlink_core.specs.declared.error.RecordName.TheVariants as name
use Rattle.sock_diag_records.specs.declared.constants.TheConstants.{AF_UNIX}
use Rattle.sock_diag_records.specs.declared.unix.request.UnixRequest.{UnixRequest}
use Rattle.sock_diag_records.specs.inverse.UnixRequest.{unix_request_of}

-- `struct unix_diag_req` (linux/unix_diag.h), by offsets:
--   0   `sdiag_family`, `sdiag_protocol` and `pad` (two bytes): ignored, and serialized as
--       AF_UNIX, 0, 0, 0
--   4   `udiag_states`: the mask 0x402 has the bits of `unix_state_flags`, 1 (`TCP_ESTABLISHED`)
--       and 10 (`TCP_LISTEN`)
--   8   `udiag_ino`
--   12  `udiag_show`: the mask 0x3f has the bits of `unix_show_flags`, `UDIAG_SHOW_NAME` (0x1) to
--       `UDIAG_SHOW_MEMINFO` (0x20)
--   16  `udiag_cookie`: eight bytes
-- The parser clears all bits that are not in these masks. Arguments of `plain`: the name in errors,
-- the length in bytes, the rows, their inverse, and the condition on arrays: the cookie has eight
-- bytes. The types `Unit {0}`: there is no parameter, and only one tag.
abbrev pub unix_request : Layout (Unit {0}) (Unit {0}) UnixRequest
unix_request = plain name.UnixRequest 24 (
    skip 0 (AF_UNIX ∷ 0 ∷ 0 ∷ 0 ∷ []) ∷
    flags32 4 0x402 (λ request. request.state_flags.0) ∷
    u32 8 UnixRequest.inode ∷
    flags32 12 0x3f (λ request. request.show_flags.0) ∷
    u8s 16 8 UnixRequest.cookie ∷ []) unix_request_of (λ value. length value.cookie ≡ 8)
