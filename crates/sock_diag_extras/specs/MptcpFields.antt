-- The fields of `struct mptcp_info` of linux/mptcp.h, as Linux 7.2 defines it: 96 bytes. The field
-- `WriteSeq` is the member `mptcpi_write_seq`, and so on.
use Rattle.std.specs.Prelude.{ℕ, ◌+◌, ◌-◌, ◌*◌, ◌/◌, List, [], ◌∷◌}
use Rattle.sock_diag_extras.specs.declared.mptcp_info.MptcpField.{MptcpField}
use Rattle.sock_diag_extras.specs.declared.mptcp_info.MptcpField.TheVariants as field

-- `mptcp_span_of f`: the offset of the field `f` (`.0`) and its width (`.1`), both in bytes
abbrev pub mptcp_span_of : MptcpField → ℕ × ℕ
mptcp_span_of field.Subflows = (0, 1)
mptcp_span_of field.AddAddrSignal = (1, 1)
mptcp_span_of field.AddAddrAccepted = (2, 1)
mptcp_span_of field.SubflowsMax = (3, 1)
mptcp_span_of field.AddAddrSignalMax = (4, 1)
mptcp_span_of field.AddAddrAcceptedMax = (5, 1)
mptcp_span_of field.Flags = (8, 4)
mptcp_span_of field.Token = (12, 4)
mptcp_span_of field.WriteSeq = (16, 8)
mptcp_span_of field.SndUna = (24, 8)
mptcp_span_of field.RcvNxt = (32, 8)
mptcp_span_of field.LocalAddrUsed = (40, 1)
mptcp_span_of field.LocalAddrMax = (41, 1)
mptcp_span_of field.CsumEnabled = (42, 1)
mptcp_span_of field.Retransmits = (44, 4)
mptcp_span_of field.BytesRetrans = (48, 8)
mptcp_span_of field.BytesSent = (56, 8)
mptcp_span_of field.BytesReceived = (64, 8)
mptcp_span_of field.BytesAcked = (72, 8)
mptcp_span_of field.SubflowsTotal = (80, 1)
mptcp_span_of field.EndpLaminarMax = (81, 1)
mptcp_span_of field.EndpFullmeshMax = (82, 1)
mptcp_span_of field.LastDataSent = (84, 4)
mptcp_span_of field.LastDataRecv = (88, 4)
mptcp_span_of field.LastAckRecv = (92, 4)

-- the width of a field, in bytes
abbrev pub mptcp_width_of : MptcpField → ℕ
mptcp_width_of f = (mptcp_span_of f).1

-- All fields, in order.
abbrev pub mptcp_fields : List MptcpField
mptcp_fields =
    field.Subflows ∷ field.AddAddrSignal ∷ field.AddAddrAccepted ∷ field.SubflowsMax ∷
    field.AddAddrSignalMax ∷ field.AddAddrAcceptedMax ∷ field.Flags ∷ field.Token ∷
    field.WriteSeq ∷ field.SndUna ∷ field.RcvNxt ∷ field.LocalAddrUsed ∷ field.LocalAddrMax ∷
    field.CsumEnabled ∷ field.Retransmits ∷ field.BytesRetrans ∷ field.BytesSent ∷
    field.BytesReceived ∷ field.BytesAcked ∷ field.SubflowsTotal ∷ field.EndpLaminarMax ∷
    field.EndpFullmeshMax ∷ field.LastDataSent ∷ field.LastDataRecv ∷ field.LastAckRecv ∷ []

-- `aligned_spans start widths`: the offset (`.0`) and the width (`.1`) of each of consecutive
-- members of a C struct, after its first `start` bytes. The members are numbers of these widths in
-- bytes. Each starts at the next multiple of its width.
abbrev pub aligned_spans : ℕ → List ℕ → List (ℕ × ℕ)
aligned_spans start [] = []
aligned_spans start (width ∷ widths) =
    let offset = (start + (width - 1)) / width * width in
    (offset, width) ∷ aligned_spans (offset + width) widths
