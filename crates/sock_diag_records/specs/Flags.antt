-- The flags that have a name in this crate: for each flag type, a table of names and bits. A name
-- is a list of character codes: `codes text` are those of a text.
use Rattle.std.specs.Prelude.{ℕ, ◌^◌, ◌==◌, List, [], ◌∷◌, ◌++◌, codes, map}
use Rattle.std.specs.List.{enumerate_from, slice_split}

-- `named_bits_from bit text`: the words of a text that is separated by spaces (character 32), each
-- with its bit: 2^bit for the first, 2^(bit + 1) for the second, and so on.
-- `named_bits_from 1 (codes "A B")` is `(codes "A", 2) ∷ (codes "B", 4) ∷ []`.
abbrev pub named_bits_from : (bit : ℕ) → List ℕ → List (List ℕ × ℕ)
named_bits_from bit text = map (λ (n, name). (name, 2 ^ n))
    (enumerate_from bit (slice_split (λ character. character == 32) text))

-- `idiag_states` of `struct inet_diag_req_v2`: bit n for state n, from `TCP_ESTABLISHED` (1) to
-- `TCP_CLOSING` (11)
abbrev pub inet_state_flags : List (List ℕ × ℕ)
inet_state_flags = named_bits_from 1
    (codes "ESTABLISHED SYN_SENT SYN_RECV FIN_WAIT1 FIN_WAIT2 TIME_WAIT "
    ++ codes "CLOSE CLOSE_WAIT LAST_ACK LISTEN CLOSING")

-- `idiag_ext` of `struct inet_diag_req_v2`: bit n - 1 for attribute kind n, from
-- `INET_DIAG_MEMINFO` (1) to `INET_DIAG_SHUTDOWN` (8)
abbrev pub inet_extension_flags : List (List ℕ × ℕ)
inet_extension_flags = named_bits_from 0
    (codes "MEMINFO INFO VEGASINFO CONG TOS TCLASS SKMEMINFO SHUTDOWN")

-- `udiag_states` of `struct unix_diag_req`: bit n for state n, `TCP_ESTABLISHED` (1) and
-- `TCP_LISTEN` (10). `TCP_CLOSE` (7) has no name here.
abbrev pub unix_state_flags : List (List ℕ × ℕ)
unix_state_flags = (codes "ESTABLISHED", 0x2) ∷ (codes "LISTEN", 0x400) ∷ []

-- `udiag_show` of `struct unix_diag_req`: `UDIAG_SHOW_NAME` (0x1) to `UDIAG_SHOW_MEMINFO` (0x20).
-- `UDIAG_SHOW_UID` (0x40) of newer kernels has no name here.
abbrev pub unix_show_flags : List (List ℕ × ℕ)
unix_show_flags = named_bits_from 0 (codes "NAME VFS PEER ICONS RQLEN MEMINFO")
