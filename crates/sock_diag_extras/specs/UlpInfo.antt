-- The fields of the upper layer protocols of a TCP socket. Each has an attribute type, defined in
-- linux/tls.h or linux/mptcp.h, and a width in bytes, which the kernel's functions `tls_get_info`
-- and `subflow_get_info` determine.
use Rattle.std.specs.Prelude.{ℕ}
use Rattle.sock_diag_extras.specs.declared.constants.TheConstants as c
use Rattle.sock_diag_extras.specs.declared.ulp_info.SubflowField.{SubflowField}
use Rattle.sock_diag_extras.specs.declared.ulp_info.SubflowField.TheVariants as subflow
use Rattle.sock_diag_extras.specs.declared.ulp_info.TlsField.{TlsField}
use Rattle.sock_diag_extras.specs.declared.ulp_info.TlsField.TheVariants as tls

-- `tls_row field`: the attribute type (TLS_INFO_..) of a field, and the width of its value in bytes
abbrev pub tls_row : TlsField → ℕ × ℕ
tls_row tls.Version = (c.TLS_INFO_VERSION, 2)
tls_row tls.Cipher = (c.TLS_INFO_CIPHER, 2)
tls_row tls.Sending = (c.TLS_INFO_TXCONF, 2)
tls_row tls.Receiving = (c.TLS_INFO_RXCONF, 2)
tls_row tls.SendingMaxPayload = (c.TLS_INFO_TX_MAX_PAYLOAD_LEN, 2)

-- `subflow_row field`: the attribute type (MPTCP_SUBFLOW_ATTR_..) of a field, and the width of its
-- value in bytes
abbrev pub subflow_row : SubflowField → ℕ × ℕ
subflow_row subflow.RemoteToken = (c.MPTCP_SUBFLOW_ATTR_TOKEN_REM, 4)
subflow_row subflow.LocalToken = (c.MPTCP_SUBFLOW_ATTR_TOKEN_LOC, 4)
subflow_row subflow.RelativeWriteSequence = (c.MPTCP_SUBFLOW_ATTR_RELWRITE_SEQ, 4)
subflow_row subflow.MapSequence = (c.MPTCP_SUBFLOW_ATTR_MAP_SEQ, 8)
subflow_row subflow.MapSubflowSequence = (c.MPTCP_SUBFLOW_ATTR_MAP_SFSEQ, 4)
subflow_row subflow.SequenceOffset = (c.MPTCP_SUBFLOW_ATTR_SSN_OFFSET, 4)
subflow_row subflow.MapLength = (c.MPTCP_SUBFLOW_ATTR_MAP_DATALEN, 2)
subflow_row subflow.Flags = (c.MPTCP_SUBFLOW_ATTR_FLAGS, 4)
subflow_row subflow.RemoteId = (c.MPTCP_SUBFLOW_ATTR_ID_REM, 1)
subflow_row subflow.LocalId = (c.MPTCP_SUBFLOW_ATTR_ID_LOC, 1)
