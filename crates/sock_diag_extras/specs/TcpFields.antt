-- The fields of `struct tcp_info` of linux/tcp.h, as Linux 7.2 defines them: 280 bytes. The field
-- `LastDataSent` is the member `tcpi_last_data_sent`, and so on.
use Rattle.std.specs.Prelude.{ℕ, ◌+◌, ◌*◌, ◌==◌, if◌then◌else◌, List, [], ◌∷◌}
use Rattle.std.specs.Prelude.{Option, None, Some}
use Rattle.netlink_core.specs.Table.{Field, byte, number}
use Rattle.sock_diag_extras.specs.Spans.{bits_of, number_in_span}
use Rattle.sock_diag_extras.specs.declared.tcp_info.TcpField.{TcpField}
use Rattle.sock_diag_extras.specs.declared.tcp_info.TcpField.TheVariants as field

-- `tcp_span_of f`: the offset of the field `f` (`.0`) and its width (`.1`), both in bytes. Two
-- fields are bytes of bit fields: `Wscale` contains `tcpi_snd_wscale` and `tcpi_rcv_wscale`, and
-- `DeliveryRateAppLimited` contains `tcpi_delivery_rate_app_limited` and
-- `tcpi_fastopen_client_fail`. The last four fields are bit fields of one number, whose span is the
-- span of each of them.
abbrev pub tcp_span_of : TcpField → ℕ × ℕ
tcp_span_of field.State = (0, 1)
tcp_span_of field.CaState = (1, 1)
tcp_span_of field.Retransmits = (2, 1)
tcp_span_of field.Probes = (3, 1)
tcp_span_of field.Backoff = (4, 1)
tcp_span_of field.Options = (5, 1)
tcp_span_of field.Wscale = (6, 1)
tcp_span_of field.DeliveryRateAppLimited = (7, 1)
tcp_span_of field.Rto = (8, 4)
tcp_span_of field.Ato = (12, 4)
tcp_span_of field.SndMss = (16, 4)
tcp_span_of field.RcvMss = (20, 4)
tcp_span_of field.Unacked = (24, 4)
tcp_span_of field.Sacked = (28, 4)
tcp_span_of field.Lost = (32, 4)
tcp_span_of field.Retrans = (36, 4)
tcp_span_of field.Fackets = (40, 4)
tcp_span_of field.LastDataSent = (44, 4)
tcp_span_of field.LastAckSent = (48, 4)
tcp_span_of field.LastDataRecv = (52, 4)
tcp_span_of field.LastAckRecv = (56, 4)
tcp_span_of field.Pmtu = (60, 4)
tcp_span_of field.RcvSsthresh = (64, 4)
tcp_span_of field.Rtt = (68, 4)
tcp_span_of field.Rttvar = (72, 4)
tcp_span_of field.SndSsthresh = (76, 4)
tcp_span_of field.SndCwnd = (80, 4)
tcp_span_of field.Advmss = (84, 4)
tcp_span_of field.Reordering = (88, 4)
tcp_span_of field.RcvRtt = (92, 4)
tcp_span_of field.RcvSpace = (96, 4)
tcp_span_of field.TotalRetrans = (100, 4)
tcp_span_of field.PacingRate = (104, 8)
tcp_span_of field.MaxPacingRate = (112, 8)
tcp_span_of field.BytesAcked = (120, 8)
tcp_span_of field.BytesReceived = (128, 8)
tcp_span_of field.SegsOut = (136, 4)
tcp_span_of field.SegsIn = (140, 4)
tcp_span_of field.NotsentBytes = (144, 4)
tcp_span_of field.MinRtt = (148, 4)
tcp_span_of field.DataSegsIn = (152, 4)
tcp_span_of field.DataSegsOut = (156, 4)
tcp_span_of field.DeliveryRate = (160, 8)
tcp_span_of field.BusyTime = (168, 8)
tcp_span_of field.RwndLimited = (176, 8)
tcp_span_of field.SndbufLimited = (184, 8)
tcp_span_of field.Delivered = (192, 4)
tcp_span_of field.DeliveredCe = (196, 4)
tcp_span_of field.BytesSent = (200, 8)
tcp_span_of field.BytesRetrans = (208, 8)
tcp_span_of field.DsackDups = (216, 4)
tcp_span_of field.ReordSeen = (220, 4)
tcp_span_of field.RcvOoopack = (224, 4)
tcp_span_of field.SndWnd = (228, 4)
tcp_span_of field.RcvWnd = (232, 4)
tcp_span_of field.Rehash = (236, 4)
tcp_span_of field.TotalRto = (240, 2)
tcp_span_of field.TotalRtoRecoveries = (242, 2)
tcp_span_of field.TotalRtoTime = (244, 4)
tcp_span_of field.ReceivedCe = (248, 4)
tcp_span_of field.DeliveredE1Bytes = (252, 4)
tcp_span_of field.DeliveredE0Bytes = (256, 4)
tcp_span_of field.DeliveredCeBytes = (260, 4)
tcp_span_of field.ReceivedE1Bytes = (264, 4)
tcp_span_of field.ReceivedE0Bytes = (268, 4)
tcp_span_of field.ReceivedCeBytes = (272, 4)
tcp_span_of field.EcnMode = (276, 4)
tcp_span_of field.AccecnOptSeen = (276, 4)
tcp_span_of field.AccecnFailMode = (276, 4)
tcp_span_of field.Options2 = (276, 4)

-- `tcp_bits_of f`: the lowest bit (`.0`) and the number of bits (`.1`) of the bit field `f` in the
-- number at its span, or None if the field is this number
abbrev pub tcp_bits_of : TcpField → Option (ℕ × ℕ)
tcp_bits_of field.EcnMode = Some (0, 2)
tcp_bits_of field.AccecnOptSeen = Some (2, 2)
tcp_bits_of field.AccecnFailMode = Some (4, 4)
tcp_bits_of field.Options2 = Some (8, 24)
tcp_bits_of _ = None

-- `tcp_value_in f bytes`: the value of the field `f` in bytes that contain all of it: the number at
-- its span, or the bits of it that the field is
abbrev pub tcp_value_in : TcpField → List ℕ → ℕ
tcp_value_in f bytes = bits_of (tcp_bits_of f) (number_in_span (tcp_span_of f) bytes)

-- `first_bit span bits`: the index of the first bit of a field with this span and these bits,
-- counted from the first byte of the struct on, in each byte from the least significant bit on
abbrev pub first_bit : ℕ × ℕ → Option (ℕ × ℕ) → ℕ
first_bit (offset, width) None = 8 * offset
first_bit (offset, width) (Some (lowest, count)) = 8 * offset + lowest

-- `bit_count span bits`: how many bits a field with this span and these bits has
abbrev pub bit_count : ℕ × ℕ → Option (ℕ × ℕ) → ℕ
bit_count (offset, width) None = 8 * width
bit_count (offset, width) (Some (lowest, count)) = count

-- the index of the first bit of a field
abbrev pub tcp_first_bit : TcpField → ℕ
tcp_first_bit f = first_bit (tcp_span_of f) (tcp_bits_of f)

-- the index of the bit after a field
abbrev pub tcp_end_bit : TcpField → ℕ
tcp_end_bit f = tcp_first_bit f + bit_count (tcp_span_of f) (tcp_bits_of f)

-- `tcp_layout_field f`: the field `f` as a field of a record's layout (`Field`): `byte` if it is
-- one byte wide, else `number`, which is little-endian.
abbrev pub tcp_layout_field : TcpField → Field
tcp_layout_field f =
    if (tcp_span_of f).1 == 1 then byte (tcp_span_of f).0
    else number (tcp_span_of f).0 (tcp_span_of f).1

-- The fields of the port's `TcpInfo`, in order: offsets 0 to 231.
abbrev pub first_fields : List TcpField
first_fields =
    field.State ∷ field.CaState ∷ field.Retransmits ∷ field.Probes ∷ field.Backoff ∷
    field.Options ∷ field.Wscale ∷ field.DeliveryRateAppLimited ∷ field.Rto ∷ field.Ato ∷
    field.SndMss ∷ field.RcvMss ∷ field.Unacked ∷ field.Sacked ∷ field.Lost ∷ field.Retrans ∷
    field.Fackets ∷ field.LastDataSent ∷ field.LastAckSent ∷ field.LastDataRecv ∷
    field.LastAckRecv ∷ field.Pmtu ∷ field.RcvSsthresh ∷ field.Rtt ∷ field.Rttvar ∷
    field.SndSsthresh ∷ field.SndCwnd ∷ field.Advmss ∷ field.Reordering ∷ field.RcvRtt ∷
    field.RcvSpace ∷ field.TotalRetrans ∷ field.PacingRate ∷ field.MaxPacingRate ∷
    field.BytesAcked ∷ field.BytesReceived ∷ field.SegsOut ∷ field.SegsIn ∷ field.NotsentBytes ∷
    field.MinRtt ∷ field.DataSegsIn ∷ field.DataSegsOut ∷ field.DeliveryRate ∷ field.BusyTime ∷
    field.RwndLimited ∷ field.SndbufLimited ∷ field.Delivered ∷ field.DeliveredCe ∷
    field.BytesSent ∷ field.BytesRetrans ∷ field.DsackDups ∷ field.ReordSeen ∷ field.RcvOoopack
    ∷ field.SndWnd ∷ []

-- The fields that follow them, in order: offsets 232 to 279.
abbrev pub later_fields : List TcpField
later_fields =
    field.RcvWnd ∷ field.Rehash ∷ field.TotalRto ∷ field.TotalRtoRecoveries ∷ field.TotalRtoTime
    ∷ field.ReceivedCe ∷ field.DeliveredE1Bytes ∷ field.DeliveredE0Bytes ∷
    field.DeliveredCeBytes ∷ field.ReceivedE1Bytes ∷ field.ReceivedE0Bytes ∷
    field.ReceivedCeBytes ∷ field.EcnMode ∷ field.AccecnOptSeen ∷ field.AccecnFailMode ∷
    field.Options2 ∷ []
