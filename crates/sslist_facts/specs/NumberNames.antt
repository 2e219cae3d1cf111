-- Names of what TLS in the kernel (linux/tls.h), subflows of MPTCP connections (linux/mptcp.h) and
-- packet sockets (linux/if_packet.h) report, by the tables of `src/number_names.rt`, and the
-- directions of a shutdown state.
use Rattle.std.specs.Prelude.{ℕ, ◌==◌, if◌then◌else◌, List, [], ◌∷◌, bit_and}
use Rattle.std.specs.Prelude.{flat_map, Option, None, Some}
use Rattle.sslist_facts.specs.Rows.{Text}
use Rattle.sslist_facts.specs.declared.number_names.TheConstants.{FANOUT_MODES, SUBFLOW_FLAGS}
use Rattle.sslist_facts.specs.declared.number_names.TheConstants.{TLS_CIPHERS, TLS_MODES}
use Rattle.sslist_facts.specs.declared.number_names.TheConstants.{RCV_SHUTDOWN, SEND_SHUTDOWN}
use Rattle.sslist_facts.specs.declared.number_names.TheConstants.{TLS_VERSIONS}

-- `name_in rows n`: the name (`.1`) in the first row with the number `n` (`.0`); None if there is
-- none
abbrev pub name_in : List (ℕ × Text) → ℕ → Option (List ℕ)
name_in [] n = None
name_in (row ∷ later) n = if n == row.0 then Some row.1.now else name_in later n

-- the name of a version of TLS; None if it has none
abbrev pub tls_version_name : ℕ → Option (List ℕ)
tls_version_name n = name_in TLS_VERSIONS n

-- the name of a cipher of TLS that ss(8) names; None if it has none
abbrev pub tls_cipher_name : ℕ → Option (List ℕ)
tls_cipher_name n = name_in TLS_CIPHERS n

-- the name of how data is encrypted or decrypted; None if it has none
abbrev pub tls_mode_name : ℕ → Option (List ℕ)
tls_mode_name n = name_in TLS_MODES n

-- the name of the mode of a fanout group; None if it has none
abbrev pub fanout_mode_name : ℕ → Option (List ℕ)
fanout_mode_name n = name_in FANOUT_MODES n

-- `flag_letter n row`: the letter `row.1` if the number `n` has the bit `row.0`
abbrev pub flag_letter : ℕ → ℕ × ℕ → List ℕ
flag_letter n row = if bit_and n row.0 == 0 then [] else row.1 ∷ []

-- the letters of the flags that are set in a number
abbrev pub flag_letters : ℕ → List ℕ
flag_letters n = flat_map (flag_letter n) SUBFLOW_FLAGS

-- `directions state`: a space, and the directions that are not shut down, by the bits of the state
-- (`sk_shutdown` of the kernel): `<->` if none is. Instead of `<` (60) it has `-` (45) if receiving
-- is shut down, and instead of `>` (62) if sending is.
abbrev pub directions : ℕ → List ℕ
directions state =
    32 ∷ (if bit_and state RCV_SHUTDOWN == 0 then 60 else 45) ∷ 45
    ∷ (if bit_and state SEND_SHUTDOWN == 0 then 62 else 45) ∷ []
