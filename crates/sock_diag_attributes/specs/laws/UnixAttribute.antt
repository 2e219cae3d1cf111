-- The codec laws of the attributes of replies about UNIX sockets.
use Rattle.std.proofs.Common.{refl}
use Rattle.netlink_core.specs.laws.ReplyObligations.{AttributeSetLaws}
use Rattle.netlink_core.proofs.AttributeTypeLaws.{◌⊕◌, attribute_spec_laws}
use Rattle.netlink_core.proofs.AttributeTypeLaws.{allocating_attribute_spec_laws}
use Rattle.netlink_core.proofs.AttributeTypeLaws.{number_attribute_laws}
use Rattle.sock_diag_values.specs.contracts.unix.vfs.VfsRecord.TheImpl.Laws.{laws-law as vfs_laws}
use Rattle.sock_diag_values.specs.contracts.unix.mem_info.MemInfoRecord.TheImpl.Laws.{
  laws-law as memory_laws,
}
use Rattle.sock_diag_attributes.specs.laws.Name.{name_laws}
use Rattle.sock_diag_attributes.specs.laws.Number.{number_pair_laws, numbers_laws}
use Rattle.sock_diag_attributes.specs.UnixAttributes.{unix_attribute_set}
use Rattle.sock_diag_records.specs.declared.constants.TheConstants as c

pub unix_laws : AttributeSetLaws unix_attribute_set
unix_laws =
    allocating_attribute_spec_laws c.UNIX_DIAG_NAME refl name_laws
    ⊕ attribute_spec_laws c.UNIX_DIAG_VFS refl vfs_laws.codec
    ⊕ number_attribute_laws c.UNIX_DIAG_PEER 4 refl
    ⊕ allocating_attribute_spec_laws c.UNIX_DIAG_ICONS refl numbers_laws
    ⊕ attribute_spec_laws c.UNIX_DIAG_RQLEN refl (number_pair_laws c.UNIX_DIAG_RQLEN)
    ⊕ attribute_spec_laws c.UNIX_DIAG_MEMINFO refl memory_laws.codec
    ⊕ number_attribute_laws c.UNIX_DIAG_SHUTDOWN 1 refl
    ⊕ tt
