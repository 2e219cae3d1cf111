use Rattle.netlink_core.specs.Walk.{buffered_attribute}
use Rattle.sock_diag_attributes.specs.UnixAttributes.{unix_attribute_set}
use Rattle.sock_diag_attributes.specs.laws.UnixAttribute.{unix_laws}
use Rattle.sock_diag_attributes.proofs.Reading.{rejected_needs_no_memory, failed_copy_needed_memory}
use Rattle.sock_diag_attributes.proofs.unix.codec.NlaWire.read.Goals as goal

pub returns-in_err-parse-clause-memory_needed : goal.returns-in_err-parse-clause-memory_needed
returns-in_err-parse-clause-memory_needed c =
    rejected_needs_no_memory unix_attribute_set unix_laws _
    (buffered_attribute c.in_ok-new_checked.field-0) _
    c.in_err-parse.ensures _ c.from_residual-in_err-parse.ensures.1

pub returns-in_err-to_owned-clause-memory_needed : goal.returns-in_err-to_owned-clause-memory_needed
returns-in_err-to_owned-clause-memory_needed c =
    failed_copy_needed_memory unix_attribute_set _ _ c.in_ok-new_checked.ensures
    c.in_ok-parse.ensures _ _
    c.in_err-to_owned.was c.to_owned.ensures.needs_no_memory _
    c.from_residual-in_err-to_owned.ensures.1

pub returns-clause-value : goal.returns-clause-value
returns-clause-value c =
    rw c.in_ok-to_owned.ensures.equal (_, c.in_ok-new_checked.ensures, c.in_ok-parse.ensures)
