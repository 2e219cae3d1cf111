-- The codec laws of the attributes of replies about IPv4 and IPv6 sockets.
use Rattle.std.proofs.Common.{refl}
use Rattle.netlink_core.specs.laws.ReplyObligations.{AttributeSetLaws}
use Rattle.netlink_core.proofs.AttributeTypeLaws.{◌⊕◌, attribute_spec_laws}
use Rattle.netlink_core.proofs.AttributeTypeLaws.{allocating_attribute_spec_laws}
use Rattle.netlink_core.proofs.AttributeTypeLaws.{number_attribute_laws}
use Rattle.sock_diag_values.specs.contracts.inet.legacy_mem_info.LegacyMemInfoRecord.TheImpl.Laws.{
  laws-law as legacy_laws,
}
use Rattle.sock_diag_values.specs.contracts.inet.tcp_info.TcpInfoRecord.TheImpl.Laws.{
  laws-law as tcp_laws,
}
use Rattle.sock_diag_values.specs.contracts.inet.mem_info.MemInfoRecord.TheImpl.Laws.{
  laws-law as memory_laws,
}
use Rattle.sock_diag_attributes.specs.laws.Text.{text_value_laws}
use Rattle.sock_diag_attributes.specs.laws.Flag.{flag_laws}
use Rattle.sock_diag_attributes.specs.InetAttributes.{inet_attribute_set}
use Rattle.sock_diag_records.specs.declared.constants.TheConstants as c

pub inet_laws : AttributeSetLaws inet_attribute_set
inet_laws =
    attribute_spec_laws c.INET_DIAG_MEMINFO refl legacy_laws.codec
    ⊕ attribute_spec_laws c.INET_DIAG_INFO refl tcp_laws.codec
    ⊕ allocating_attribute_spec_laws c.INET_DIAG_CONG refl text_value_laws
    ⊕ number_attribute_laws c.INET_DIAG_TOS 1 refl
    ⊕ number_attribute_laws c.INET_DIAG_TCLASS 1 refl
    ⊕ attribute_spec_laws c.INET_DIAG_SKMEMINFO refl memory_laws.codec
    ⊕ number_attribute_laws c.INET_DIAG_SHUTDOWN 1 refl
    ⊕ number_attribute_laws c.INET_DIAG_PROTOCOL 1 refl
    ⊕ attribute_spec_laws c.INET_DIAG_SKV6ONLY refl (flag_laws c.INET_DIAG_SKV6ONLY)
    ⊕ number_attribute_laws c.INET_DIAG_MARK 4 refl
    ⊕ number_attribute_laws c.INET_DIAG_CLASS_ID 4 refl
    ⊕ tt
