-- The layout `inet_response_header` is sound (`MeetsLayoutConditions`), and has a fixed length of
-- 72 bytes.
use Rattle.std.proofs.Common.{IsTrue, ◌≡◌, ℕ, ◌^◌, ◌<◌, List, ◌++◌, drop, length, slice_index}
use Rattle.std.proofs.Common.{Option, Some, None, Result, Ok, refl, arith}
use Rattle.netlink_core.specs.Table.{values_of, number, array}
use Rattle.netlink_core.specs.laws.LayoutObligations.{fields_are_consecutive, MeetsLayoutConditions}
use Rattle.netlink_core.specs.laws.LayoutObligations.{HasFixedSize}
use Rattle.netlink_core.specs.Bytes.{IsBytes}
use Rattle.netlink_core.specs.Errors.{map_ok}
use Rattle.netlink_core.proofs.Numbers.{number-fits, little_endian}
use Rattle.netlink_core.specs.Layout.{record_bytes, tag_fields, field_numbers}
use Rattle.netlink_core.proofs.TableLaws.{AreBytes-drop}
use Rattle.sock_diag_records.specs.declared.inet.response.Timer.{Timer}
use Rattle.sock_diag_records.specs.declared.inet.response.Timer.TheVariants.{Retransmit, KeepAlive}
use Rattle.sock_diag_records.specs.declared.inet.response.Timer.TheVariants.{TimeWait, Probe}
use Rattle.std.specs.declared.time.Duration.{Duration}
use Rattle.sock_diag_records.specs.declared.inet.response.InetResponseHeader.{InetResponseHeader}
use Rattle.sock_diag_records.specs.declared.inet.response.TheConstants.{INET_RESPONSE_HEADER_LEN}
use Rattle.sock_diag_records.specs.declared.inet.socket_id.SocketId.{SocketId}
use Rattle.netlink_core.specs.declared.error.DecodeError.{DecodeError}
use Rattle.sock_diag_records.specs.laws.SocketId.{socket_id_fields, socket_id_values}
use Rattle.sock_diag_records.specs.SocketId.{HasArrayLengths}
use Rattle.sock_diag_records.specs.inverse.SocketId.{socket_id_of}
use Rattle.sock_diag_records.specs.IpVersions.{IpVersions, versions_of}
use Rattle.sock_diag_records.specs.InetResponse.{inet_response_header}
use Rattle.sock_diag_records.specs.inverse.InetResponse.{duration_of_milliseconds, timer_of}
use Rattle.sock_diag_records.specs.inverse.InetResponse.{inet_response_header_of}
use Rattle.sock_diag_records.specs.inverse.InetResponse.{socket_id_value_count}
use Rattle.sock_diag_records.specs.Timer.{u32_milliseconds, timer_class}
use Rattle.sock_diag_records.specs.Timer.{timer_data, IsWholeU32Milliseconds}
use Rattle.sock_diag_records.specs.laws.SocketId.{for_each_version_pair, socket_id_inverse}

-- the tag of IP versions and a timer class, or the error of the family
abbrev pub versions_with_timer_class : ℕ → Result IpVersions DecodeError
    → Result (IpVersions × ℕ) DecodeError
versions_with_timer_class class tag_found = map_ok (λ versions. (versions, class)) tag_found

-- a property that the classes 0 to 4 have is one of every timer class
pub for_each_timer_class : (P : ℕ → Type 0) → P 0 → P 1 → P 2 → P 3 → P 4 → (class : ℕ) → class < 5
    → P class
for_each_timer_class P none retransmits keeps_alive waits probes class h = grind arith

-- ---- parsing

-- the `u32` at 52, `idiag_expires`
abbrev expires_at : List ℕ → ℕ
expires_at left = slice_index (values_of (array number 52 4 1) left) 0

pub class_lt : (timer : ℕ) → timer_class timer < 5
class_lt timer = grind arith

-- the fields of each tag are consecutive, and end at 72
header_fields_are_consecutive : (versions : IpVersions) (class : ℕ) → class < 5
    → IsTrue (fields_are_consecutive 0 (tag_fields inet_response_header (versions, class))
    INET_RESPONSE_HEADER_LEN)
unfolding inet_response_header
header_fields_are_consecutive =
    for_each_version_pair _ (for_each_timer_class _ refl refl refl refl refl)
    (for_each_timer_class _ refl refl refl refl refl)
    (for_each_timer_class _ refl refl refl refl refl)
    (for_each_timer_class _ refl refl refl refl refl)

class_of_lt : (timer : Option Timer) → (timer_data timer).0 < 5
class_of_lt timer = grind arith

-- a parsed header has the numbers that are in the bytes, and its timer has whole milliseconds
parsed_header_has_values : (left : List ℕ) → IsBytes left → (versions : IpVersions) (class : ℕ)
    → class < 5
    → let numbers = values_of (tag_fields inet_response_header (versions, class)) left in
    let value = inet_response_header_of (versions, class) numbers in
    (field_numbers inet_response_header value ≡ numbers)
    × IsWholeU32Milliseconds (timer_data value.timer).2
unfolding inet_response_header
parsed_header_has_values left h =
    let below : expires_at left < 2 ^ 32 = number-fits little_endian 4 (drop 52 left)
    (AreBytes-drop 52 left h) in
    let same : u32_milliseconds (duration_of_milliseconds (expires_at left)) ≡ expires_at left =
    omega arith in
    let whole : IsWholeU32Milliseconds (duration_of_milliseconds (expires_at left)) = omega arith in
    for_each_version_pair _
    (for_each_timer_class _ (refl, refl) (rw same, whole) (rw same, whole) (refl, refl) (
      rw same,
      whole,
    ))
    (for_each_timer_class _ (refl, refl) (rw same, whole) (rw same, whole) (refl, refl) (
      rw same,
      whole,
    ))
    (for_each_timer_class _ (refl, refl) (rw same, whole) (rw same, whole) (refl, refl) (
      rw same,
      whole,
    ))
    (for_each_timer_class _ (refl, refl) (rw same, whole) (rw same, whole) (refl, refl) (
      rw same,
      whole,
    ))

-- the header with these fields, of which the `u32` at 52 and the four after it are in a list
abbrev pub inet_response_header_from_fields : ℕ → ℕ → ℕ → ℕ → SocketId → List ℕ
    → Result InetResponseHeader DecodeError
inet_response_header_from_fields class family state retransmits socket u32s = Ok record {
  family = family;
  state = state;
  timer = timer_of class retransmits (slice_index u32s 0);
  socket_id = socket;
  recv_queue = slice_index u32s 1;
  send_queue = slice_index u32s 2;
  uid = slice_index u32s 3;
  inode = slice_index u32s 4;
}

pub inet_response_header_is_from_fields : (left : List ℕ) (versions : IpVersions) (class : ℕ)
    → class < 5
    → let numbers = values_of (tag_fields inet_response_header (versions, class)) left in
    Ok (inet_response_header_of (versions, class) numbers)
    ≡ inet_response_header_from_fields class (slice_index left 0) (slice_index left 1)
    (slice_index left 3)
    (socket_id_of versions (values_of (socket_id_fields 4 versions) left))
    (values_of (array number 52 4 5) left)
unfolding inet_response_header
inet_response_header_is_from_fields left =
    for_each_version_pair _ (for_each_timer_class _ refl refl refl refl refl)
    (for_each_timer_class _ refl refl refl refl refl)
    (for_each_timer_class _ refl refl refl refl refl)
    (for_each_timer_class _ refl refl refl refl refl)

-- ---- the inverse

-- a duration of whole milliseconds below 2^32 is the duration of its milliseconds
duration_inverse : (time : Duration) → IsWholeU32Milliseconds time
    → duration_of_milliseconds (u32_milliseconds time) ≡ time
duration_inverse time whole = grind arith

drop_socket_id_values : (value : SocketId) (rest : List ℕ)
    → drop (socket_id_value_count (versions_of value)) (socket_id_values value ++ rest) ≡ rest
drop_socket_id_values value rest = grind arith

inet_response_header_inverse : (timer : Option Timer) (family state : ℕ) (socket : SocketId)
    (recv send uid inode : ℕ) → HasArrayLengths socket → IsWholeU32Milliseconds (timer_data timer).2
    → let header : InetResponseHeader = record {
      family = family;
      state = state;
      timer = timer;
      socket_id = socket;
      recv_queue = recv;
      send_queue = send;
      uid = uid;
      inode = inode;
    } in
    inet_response_header_of (inet_response_header.tag_of header)
    (field_numbers inet_response_header header) ≡ header
unfolding inet_response_header
inet_response_header_inverse None family state socket recv send uid inode shaped whole =
    simp (drop_socket_id_values, socket_id_inverse, shaped)
inet_response_header_inverse (Some (Retransmit time count)) family state socket recv send uid inode
    shaped whole =
    simp (drop_socket_id_values, socket_id_inverse, shaped, duration_inverse time whole)
inet_response_header_inverse (Some (KeepAlive time)) family state socket recv send uid inode shaped
    whole =
    simp (drop_socket_id_values, socket_id_inverse, shaped, duration_inverse time whole)
inet_response_header_inverse (Some TimeWait) family state socket recv send uid inode shaped whole =
    simp (drop_socket_id_values, socket_id_inverse, shaped)
inet_response_header_inverse (Some (Probe time)) family state socket recv send uid inode shaped
    whole =
    simp (drop_socket_id_values, socket_id_inverse, shaped, duration_inverse time whole)

-- ---- soundness

-- a header serializes to 72 bytes
pub inet_response_header_length : (value : InetResponseHeader)
    → length (record_bytes inet_response_header value) ≡ INET_RESPONSE_HEADER_LEN
unfolding inet_response_header
inet_response_header_length value = grind arith

pub inet_response_header_sound : MeetsLayoutConditions inet_response_header
unfolding inet_response_header
inet_response_header_sound = record {
  size = λ tag. INET_RESPONSE_HEADER_LEN;
  tables = λ param t left e. header_fields_are_consecutive t.0 t.1 (grind arith);
  own_table = λ value.
      header_fields_are_consecutive (versions_of value.socket_id) (timer_data value.timer).0
      (class_of_lt value.timer);
  enough = λ value. omega arith;
  room = λ param t left enough e. enough;
  long = inet_response_header_length;
  named = λ param left e. grind arith;
  kept = λ param t left h e. (parsed_header_has_values left h t.0 t.1 (grind arith)).0;
  tagged = λ param t left e. grind arith;
  shaped = λ param t left h e. grind arith;
  owned = λ param t left h e. (
    grind arith,
    (parsed_header_has_values left h t.0 t.1 (grind arith)).1,
  );
  back = λ param v t n. inet_response_header_inverse v.timer v.family v.state v.socket_id
      v.recv_queue v.send_queue
      v.uid v.inode t.0 n.1.1;
  tag_written = λ param value t n. rw n.1.0 (grind arith);
}

pub inet_response_header_has_fixed_length : HasFixedSize inet_response_header
    INET_RESPONSE_HEADER_LEN
unfolding inet_response_header
inet_response_header_has_fixed_length = (refl, inet_response_header_length)
