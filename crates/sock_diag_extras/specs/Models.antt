-- The models of borrowed values and of iterators. Contracts refer to values by their models.
use Rattle.std.specs.Prelude.{ℕ, ℤ, List}
use Rattle.sock_diag_extras.specs.declared.acknowledgement.AckView.{AckView}
use Rattle.sock_diag_extras.specs.declared.mptcp_info.MptcpInfoBytes.{MptcpInfoBytes}
use Rattle.sock_diag_extras.specs.declared.nested.NestedNlas.{NestedNlas}
use Rattle.sock_diag_extras.specs.declared.records.AttributeRecords.{AttributeRecords}
use Rattle.sock_diag_extras.specs.declared.tcp_info.TcpInfoBytes.{TcpInfoBytes}

-- The bytes of nested attributes.
abbrev pub nested_bytes : NestedNlas → List ℕ
nested_bytes nested = nested.bytes.now

-- The bytes of the value of an INET_DIAG_INFO of TCP: a `struct tcp_info`, of any length.
abbrev pub tcp_info_bytes : TcpInfoBytes → List ℕ
tcp_info_bytes info = info.bytes.now

-- The bytes of the value of an INET_DIAG_INFO of MPTCP: a `struct mptcp_info`, of any length.
abbrev pub mptcp_info_bytes : MptcpInfoBytes → List ℕ
mptcp_info_bytes info = info.bytes.now

-- The bytes that an iterator over records has not parsed yet.
abbrev pub unread_record_bytes : {T : Type 0} → AttributeRecords T → List ℕ
unread_record_bytes records = records.bytes.now

-- The error number of an acknowledgement: 0 or `-errno` (`error` of `struct nlmsgerr`).
abbrev pub ack_number : AckView → ℤ
ack_number ack = ack.number

-- The bytes of the request in an acknowledgement, starting with its header (`msg` of
-- `struct nlmsgerr`). Empty for the end of a dump.
abbrev pub ack_request : AckView → List ℕ
ack_request ack = ack.request.now

-- The bytes of the attributes of an acknowledgement (NLMSGERR_ATTR_..). Empty if the flags of its
-- header lack NLM_F_ACK_TLVS.
abbrev pub ack_attributes : AckView → List ℕ
ack_attributes ack = ack.attributes.now
