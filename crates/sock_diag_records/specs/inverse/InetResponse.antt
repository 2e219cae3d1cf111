-- The inverse of the layout `inet_response_header`.
use Rattle.std.specs.Prelude.{ℕ, ◌+◌, ◌*◌, ◌/◌, ◌%◌, ◌==◌, ◌||◌, if◌then◌else◌, List, drop}
use Rattle.std.specs.Prelude.{slice_index, Option, Some, None}
use Rattle.std.specs.declared.time.Duration.{Duration}
use Rattle.sock_diag_records.specs.declared.inet.response.Timer.{Timer}
use Rattle.sock_diag_records.specs.declared.inet.response.Timer.TheVariants.{Retransmit, KeepAlive}
use Rattle.sock_diag_records.specs.declared.inet.response.Timer.TheVariants.{TimeWait, Probe}
use Rattle.sock_diag_records.specs.declared.inet.response.InetResponseHeader.{InetResponseHeader}
use Rattle.sock_diag_records.specs.IpVersions.{IpVersions}
use Rattle.sock_diag_records.specs.inverse.SocketId.{address_value_count, socket_id_of}

-- `duration_of_milliseconds milliseconds`: the duration of this number of milliseconds
abbrev pub duration_of_milliseconds : ℕ → Duration
duration_of_milliseconds milliseconds = record {
  secs = milliseconds / 1_000;
  nanos = milliseconds % 1_000 * 1_000_000;
}

-- `retransmits_value_count class`: the number of values of `idiag_retrans`, at 3: one if the
-- timer's class is 1, which has retransmits; else none, since the field is ignored
abbrev pub retransmits_value_count : ℕ → ℕ
retransmits_value_count class = if class == 1 then 1 else 0

-- `expires_value_count class`: the number of values of `idiag_expires`, at 52: none if the timer's
-- class is 0 or 3, which have no time, so that the field is ignored; else one
abbrev pub expires_value_count : ℕ → ℕ
expires_value_count class = if class == 0 || class == 3 then 0 else 1

-- `timer_of class retransmits expires`: the timer of this class (`timer_class` of `idiag_timer`),
-- with the number of retransmits (`idiag_retrans`) and the time in milliseconds (`idiag_expires`)
-- if the class has them; `None` for the class 0
abbrev pub timer_of : (class retransmits expires : ℕ) → Option Timer
timer_of class retransmits expires =
    if class == 1 then Some (Retransmit (duration_of_milliseconds expires) retransmits)
    else if class == 2 then Some (KeepAlive (duration_of_milliseconds expires))
    else if class == 3 then Some TimeWait
    else if class == 4 then Some (Probe (duration_of_milliseconds expires)) else None

-- `socket_id_value_count versions`: the number of values of a socket id: two ports, the octets or
-- segments of two addresses of these IP versions, and nine more, which are the interface and eight
-- bytes of the cookie
abbrev pub socket_id_value_count : IpVersions → ℕ
socket_id_value_count versions =
    2 + address_value_count versions.0 + address_value_count versions.1 + 9

-- `inet_response_header_of tag values`: the header with these numbers in the fields that are not
-- ignored, in the order of the rows of `inet_response_header`. The tag is the IP versions of both
-- addresses (`.0`) and the timer's class (`.1`). `from_..` are the numbers from a field on. If the
-- class has no retransmits or no time, `timer_of` does not use the number that it is given for it.
abbrev pub inet_response_header_of : IpVersions × ℕ → List ℕ → InetResponseHeader
inet_response_header_of tag values =
    let versions = tag.0 in
    let class = tag.1 in
    let from_socket_id = drop (retransmits_value_count class) (drop 2 values) in
    let from_expires = drop (socket_id_value_count versions) from_socket_id in
    let from_recv_queue = drop (expires_value_count class) from_expires in
    record {
      family = slice_index values 0;
      state = slice_index values 1;
      timer = timer_of class (slice_index values 2) (slice_index from_expires 0);
      socket_id = socket_id_of versions from_socket_id;
      recv_queue = slice_index from_recv_queue 0;
      send_queue = slice_index from_recv_queue 1;
      uid = slice_index from_recv_queue 2;
      inode = slice_index from_recv_queue 3;
    }
