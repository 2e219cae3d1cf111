-- The significant bits of the records: a mask for each byte. A bit that is 0 in the mask is
-- ignored. The four bytes of a `u32` are little-endian. Offsets are those of the C structs, and a
-- range of offsets does not include its end.
use Rattle.std.specs.Prelude.{◌≡◌, ◌⊎◌, ◌<◌, ℕ, ◌==◌, ◌||◌, if◌then◌else◌, List, [], ◌∷◌, ◌++◌}
use Rattle.std.specs.Prelude.{slice_index}
use Rattle.netlink_core.specs.SignificantBits.{significant, ignored}
use Rattle.sock_diag_records.specs.declared.constants.TheConstants.{AF_INET, AF_INET6}

-- `family_byte bytes`: the first byte of a request (`sdiag_family`) or of a header (`idiag_family`)
abbrev pub family_byte : List ℕ → ℕ
family_byte bytes = slice_index bytes 0

-- `timer_byte bytes`: the byte `idiag_timer` of a header, at offset 2
abbrev pub timer_byte : List ℕ → ℕ
timer_byte bytes = slice_index bytes 2

-- `IsInetFamily family`: the family is AF_INET or AF_INET6
abbrev pub IsInetFamily : ℕ → Type 0
IsInetFamily family = (family ≡ AF_INET) ⊎ (family ≡ AF_INET6)

-- `socket_id_masks family`: `struct inet_diag_sockid`, for the family AF_INET or AF_INET6:
--   0..4    `idiag_sport`, `idiag_dport`
--   4..20   `idiag_src`: 4..8 for AF_INET, all for AF_INET6
--   20..36  `idiag_dst`: 20..24 for AF_INET, all for AF_INET6
--   36..48  `idiag_if`, `idiag_cookie`
-- The masks are not used for other families.
abbrev pub socket_id_masks : (family : ℕ) → List ℕ
socket_id_masks family =
    if family == AF_INET
    then significant 8 ++ ignored 12 ++ significant 4 ++ ignored 12 ++ significant 12
    else significant 48

-- `inet_request_masks family`: `struct inet_diag_req_v2`, for the family AF_INET or AF_INET6:
--   0..3    `sdiag_family`, `sdiag_protocol`, `idiag_ext`
--   3       `pad`: ignored
--   4..8    `idiag_states`: bits 1 (`TCP_ESTABLISHED`) to 11 (`TCP_CLOSING`), 0xffe, which is the
--           bytes fe 0f 00 00
--   8..56   `id`, for the family
abbrev pub inet_request_masks : (family : ℕ) → List ℕ
inet_request_masks family = significant 3 ++ ignored 1 ++ (0xfe ∷ 0x0f ∷ 0 ∷ 0 ∷ [])
    ++ socket_id_masks family

-- `inet_response_header_masks family timer`: `struct inet_diag_msg`, for the family AF_INET or
-- AF_INET6 and the byte `idiag_timer`:
--   0..2    `idiag_family`, `idiag_state`
--   2       `idiag_timer`: ignored by the mask, since `HaveSameTimerClass` compares it
--   3       `idiag_retrans`: only if the timer is 1, retransmit
--   4..52   `id`, for the family
--   52..56  `idiag_expires`: only if the timer is 1, 2 or 4
--   56..72  `idiag_rqueue`, `idiag_wqueue`, `idiag_uid`, `idiag_inode`
abbrev pub inet_response_header_masks : (family timer : ℕ) → List ℕ
inet_response_header_masks family timer = significant 2 ++ ignored 1
    ++ (if timer == 1 then significant 1 else ignored 1) ++ socket_id_masks family
    ++ (if timer == 1 || timer == 2 || timer == 4 then significant 4 else ignored 4)
    ++ significant 16

-- `HasNoTimer timer`: the byte `idiag_timer` is none of 1, 2, 3 and 4: there is no timer
abbrev pub HasNoTimer : ℕ → Type 0
HasNoTimer timer = (timer ≡ 0) ⊎ (4 < timer)

-- `HaveSameTimerClass timer other`: the two bytes `idiag_timer` are equal, or both mean no timer.
-- There are five classes of bytes: 1, 2, 3, 4, and all others, which mean no timer.
abbrev pub HaveSameTimerClass : ℕ → ℕ → Type 0
HaveSameTimerClass timer other = (timer ≡ other) ⊎ (HasNoTimer timer × HasNoTimer other)

-- `struct unix_diag_req`:
--   0..4    `sdiag_family`, `sdiag_protocol`, `pad`: ignored, the parser does not check them
--   4..8    `udiag_states`: bits 1 (`TCP_ESTABLISHED`) and 10 (`TCP_LISTEN`), 0x402, which is the
--           bytes 02 04 00 00; not bit 7 (`TCP_CLOSE`), which has no name in `unix_state_flags`
--   8..12   `udiag_ino`
--   12..16  `udiag_show`: `UDIAG_SHOW_NAME` (0x1) to `UDIAG_SHOW_MEMINFO` (0x20), 0x3f;
--           not `UDIAG_SHOW_UID` (0x40), which has no name in `unix_show_flags`
--   16..24  `udiag_cookie`
abbrev pub unix_request_masks : List ℕ
unix_request_masks = ignored 4 ++ (0x02 ∷ 0x04 ∷ 0 ∷ 0 ∷ []) ++ significant 4
    ++ (0x3f ∷ 0 ∷ 0 ∷ 0 ∷ []) ++ significant 8

-- `struct unix_diag_msg`:
--   0       `udiag_family`: ignored, the parser of this record does not check it
--   1..3    `udiag_type`, `udiag_state`: any values, such as state 7 (`TCP_CLOSE`)
--   3       `pad`: ignored
--   4..16   `udiag_ino`, `udiag_cookie`
abbrev pub unix_response_header_masks : List ℕ
unix_response_header_masks = ignored 1 ++ significant 2 ++ ignored 1 ++ significant 12
