-- The header of a reply about an IPv4 or IPv6 socket, 72 bytes.
use Rattle.std.specs.Prelude.{◌≡◌, ℕ, ◌==◌, ◌||◌, if◌then◌else◌, [], ◌∷◌, replicate, slice_index}
use Rattle.std.specs.Prelude.{Ok}
use Rattle.netlink_core.specs.Layout.{Layout}
use Rattle.sock_diag_records.specs.declared.inet.response.InetResponseHeader.{InetResponseHeader}
use Rattle.netlink_core.specs.Errors.{map_ok}
use Rattle.netlink_core.specs.declared.error.RecordName.TheVariants as name
use Rattle.sock_diag_records.specs.IpVersions.{IpVersions, versions_of, versions_of_family}
use Rattle.sock_diag_records.specs.SocketId.{HasArrayLengths, socket_id_rows}
use Rattle.sock_diag_records.specs.Timer.{timer_class, class_of, retransmits_of, expires_of}
use Rattle.sock_diag_records.specs.Timer.{u32_milliseconds}
use Rattle.sock_diag_records.specs.Timer.{IsWholeU32Milliseconds}
use Rattle.sock_diag_records.specs.inverse.InetResponse.{inet_response_header_of}
use Rattle.netlink_core.specs.Rows.{u8, u32, skip, embed}

-- `struct inet_diag_msg` (linux/inet_diag.h), by offsets:
--   0   `idiag_family`: has to be AF_INET or AF_INET6, and selects the IP version of both addresses
--   1   `idiag_state`
--   2   `idiag_timer`: its class (`timer_class`) is in the tag; the parser does not read this row
--       (`skip`), and the serializer writes the class
--   3   `idiag_retrans`: parsed if the class is 1, retransmit; else ignored, and serialized as 0
--   4   `id`: a `struct inet_diag_sockid`, with addresses of these IP versions
--   52  `idiag_expires`, in milliseconds: parsed if the class is 1, 2 or 4; ignored, and serialized
--       as 0, if the class is 0, no timer, or 3, time-wait
--   56  `idiag_rqueue`, `idiag_wqueue`, `idiag_uid`, `idiag_inode`
-- The tag is the IP versions of both addresses (`versions`) and the class. `class_of`,
-- `retransmits_of` and `expires_of` are the class, the number of retransmits and the duration of a
-- timer. The parser has no parameter (`Unit {0}`).
unfoldable pub inet_response_header : Layout (Unit {0}) (IpVersions × ℕ) InetResponseHeader
inet_response_header = record {
  name = name.InetResponseHeader;
  least = 72;
  -- bytes are parsed by the IP version of their family, or rejected for another family
  tag_for = λ param bytes. map_ok (λ versions. (versions, timer_class (slice_index bytes 2)))
      (versions_of_family (slice_index bytes 0));
  -- a value is serialized with each address in its own IP version
  tag_of = λ value. (versions_of value.socket_id, class_of value.timer);
  rows = λ (versions, class).
      u8 0 InetResponseHeader.family ∷
      u8 1 InetResponseHeader.state ∷
      skip 2 (class ∷ []) ∷
      (if class == 1 then u8 3 (λ header. retransmits_of header.timer) else skip 3 (0 ∷ [])) ∷
      embed InetResponseHeader.socket_id (socket_id_rows 4 versions) ∷
      (if class == 0 || class == 3 then skip 52 (replicate 4 0)
      else u32 52 (λ header. u32_milliseconds (expires_of header.timer))) ∷
      u32 56 InetResponseHeader.recv_queue ∷
      u32 60 InetResponseHeader.send_queue ∷
      u32 64 InetResponseHeader.uid ∷
      u32 68 InetResponseHeader.inode ∷ [];
  -- the header with these numbers in the rows for this tag
  value = inet_response_header_of;
  -- the addresses and the cookie have their lengths
  arrays_fit = λ value. HasArrayLengths value.socket_id;
  -- both addresses are of the family's IP version, and the timer's duration is a whole number of
  -- milliseconds below 2^32
  is_consistent = λ param value.
      (versions_of_family value.family ≡ Ok (versions_of value.socket_id))
      × IsWholeU32Milliseconds (expires_of value.timer);
}
