use Rattle.std.proofs.Common.{ℕ, List, slice_index, ap, Result, Ok}
use Rattle.bitflags.proofs.OnLiterals.{bitflags_on_literals}
use Rattle.netlink_core.proofs.Congruence.{◌⊛◌}
use Rattle.netlink_core.specs.declared.error.DecodeError.{DecodeError}
use Rattle.sock_diag_records.specs.declared.unix.request.UnixRequest.{UnixRequest}
use Rattle.sock_diag_records.proofs.unix.request.UnixRequestRecord.from_fields.Goals as goal

abbrev found : ℕ → ℕ → ℕ → List ℕ → Result UnixRequest DecodeError
found state_flags inode show_flags cookie =
    Ok record {
      state_flags = record { 0 = state_flags };
      inode = inode;
      show_flags = record { 0 = show_flags };
      cookie = cookie;
    }

pub returns : goal.returns
unfolding bitflags_on_literals
returns c =
    ap found (rw c.u32s_at.ensures at (c.from_bits_truncate.ensures tt))
    ⊛ ap (λ (ws : List ℕ). slice_index ws 1) c.u32s_at.ensures
    ⊛ rw c.u32s_at.ensures at (c.from_bits_truncate-2.ensures tt)
    ⊛ c.array_at.ensures
