-- The contents of a reply about a UNIX socket: `struct sockdiag_unix_details`.
use Rattle.std.specs.Prelude.{List, [], ◌∷◌}
use Rattle.netlink_core.specs.Errors.{map_ok}
use Rattle.sock_diag_attributes.specs.UnixAttributes.{unix_attribute_set}
use Rattle.sock_diag_replies.specs.UnixResponseSpec.{unix_response_spec}
use Rattle.sock_diag_any.specs.AnyNla.{AnyValue}
use Rattle.sock_diag_any.specs.declared.nla.Sockets.TheVariants.{Unix}
use Rattle.sock_diag_any.specs.AnyParts.{memory_of, owner_of, peer_of}
use Rattle.sockdiag_c.specs.AnyParts.{file_device_of, file_inode_of, name_of, recv_queue_of}
use Rattle.sockdiag_c.specs.AnyParts.{send_queue_of, shutdown_of}
use Rattle.sockdiag_c.specs.declared.headers.UnixHeader.{UnixHeader}
use Rattle.sockdiag_c.specs.declared.unix_details.UnixDetails.{UnixDetails}
use Rattle.sockdiag_c.specs.CheckedKinds.{read_checked}
use Rattle.sockdiag_c.specs.Details.{memory_row, number_row, text_row}
use Rattle.sockdiag_c.specs.Family.{Family, StructRow}
use Rattle.sockdiag_c.specs.Headers.{unix_header_of}

-- One row for each field of the struct after the header. An attribute with several numbers has one
-- row for each of them that has a field.
abbrev pub unix_rows : List (StructRow AnyValue UnixDetails)
unix_rows =
    text_row name_of (λ d. d.name)
    ∷ number_row file_inode_of (λ d. d.file_inode)
    ∷ number_row file_device_of (λ d. d.file_device)
    ∷ number_row peer_of (λ d. d.peer)
    ∷ number_row recv_queue_of (λ d. d.recv_queue)
    ∷ number_row send_queue_of (λ d. d.send_queue)
    ∷ memory_row memory_of (λ d. d.memory)
    ∷ number_row shutdown_of (λ d. d.shutdown)
    ∷ number_row owner_of (λ d. d.owner)
    ∷ []

-- Replies about UNIX sockets. An attribute that `unix_attribute_set` rejects is rejected, also one
-- without a field, such as a `UNIX_DIAG_ICONS` whose length is not a multiple of 4.
abbrev pub unix_family : Family UnixDetails
unix_family = record {
  Header = UnixHeader;
  parse_header = λ payload. map_ok unix_header_of (unix_response_spec.header.parses tt payload);
  header_size = unix_response_spec.size;
  header = λ d. d.header;
  Value = AnyValue;
  read = read_checked unix_attribute_set Unix;
  rows = unix_rows;
}
