-- The layout `socket_id` is sound (`MeetsLayoutConditions`), and has a fixed length of 48 bytes.
use Rattle.std.proofs.Common.{◌≡◌, ℕ, List, [], ◌∷◌, ◌++◌, drop, length, refl, sym, ap, ◌∙◌, arith}
use Rattle.std.proofs.Common.{append-nil}
use Rattle.std.proofs.lemmas.List.{append_assoc, get_or-drop, drop-drop}
use Rattle.std.specs.List.{flat_map}
use Rattle.byteorder.specs.Endian.{big_bytes, little_bytes}
use Rattle.netlink_core.proofs.FieldReads.{first_numbers_are_all}
use Rattle.std.specs.declared.net.ip_addr.IpAddr.{IpAddr}
use Rattle.netlink_core.specs.Table.{values_of, first_numbers, FitFields, Field}
use Rattle.netlink_core.specs.laws.LayoutObligations.{MeetsLayoutConditions, HasFixedSize}
use Rattle.netlink_core.specs.Layout.{IsInRange, record_bytes}
use Rattle.sock_diag_records.specs.declared.inet.socket_id.SocketId.{SocketId}
use Rattle.sock_diag_records.specs.declared.inet.socket_id.TheConstants.{SOCKET_ID_LEN}
use Rattle.sock_diag_records.specs.SocketId.{address_values}
use Rattle.sock_diag_records.specs.private.SocketId.{address_field_bytes}
use Rattle.sock_diag_records.specs.SocketId.{socket_id_rows, socket_id}
use Rattle.netlink_core.specs.Rows.{fields_of}
use Rattle.sock_diag_records.specs.SocketId.{HasAddressLength}
use Rattle.sock_diag_records.specs.SocketId.{HasArrayLengths}
use Rattle.sock_diag_records.specs.inverse.SocketId.{address_value_count, address_of, socket_id_of}
use Rattle.sock_diag_records.specs.IpVersions.{ipv4, ipv6, IpVersions, address_data, versions_of}
use Rattle.std.proofs.Math.Nat.{add_assoc}

-- the fields of a socket id that is stored at an offset, and the values in these fields
abbrev pub socket_id_fields : ℕ → IpVersions → List Field
socket_id_fields offset versions = fields_of (socket_id_rows offset versions)

abbrev pub socket_id_values : SocketId → List ℕ
socket_id_values v = v.source_port ∷ v.destination_port ∷ (address_values v.source_address
    ++ (address_values v.destination_address ++ v.interface_id ∷ first_numbers 8 v.cookie))

-- a property of the four pairs of IP versions holds for every pair
pub for_each_version_pair : (P : IpVersions → Type 0) → P (ipv4, ipv4) → P (ipv4, ipv6)
    → P (ipv6, ipv4)
    → P (ipv6, ipv6) → (versions : IpVersions) → P versions
for_each_version_pair P a b c d versions = grind arith

-- the inverse of an address's values is the address, and the values after them remain
address_inverse : (address : IpAddr) (rest : List ℕ) → HasAddressLength address
    → address_of (address_data address).0 (address_values address ++ rest) ≡ address
address_inverse address rest h =
    grind (arith, first_numbers_are_all 4, first_numbers_are_all 8)

drop_address_values : (address : IpAddr) (rest : List ℕ)
    → drop (address_value_count (address_data address).0) (address_values address ++ rest) ≡ rest
drop_address_values address rest = grind arith

-- the inverse of a socket id's values, whatever follows them, is the socket id
pub socket_id_inverse : (value : SocketId) (rest : List ℕ) → HasArrayLengths value
    → socket_id_of (versions_of value) (socket_id_values value ++ rest) ≡ value
socket_id_inverse value rest shaped =
    grind (
      arith,
      append_assoc,
      drop_address_values,
      address_inverse,
      first_numbers_are_all 8 value.cookie shaped.2,
    )

-- the serialized form of a socket id by itself
pub socket_id_serializes_to : (value : SocketId) → record_bytes socket_id value
    ≡ flat_map (big_bytes 2) (value.source_port ∷ value.destination_port ∷ [])
    ++ (address_field_bytes value.source_address ++ (address_field_bytes value.destination_address
    ++ (little_bytes 4 value.interface_id ++ first_numbers 8 value.cookie)))
unfolding socket_id
socket_id_serializes_to value = grind arith

-- a socket id serializes to 48 bytes
pub socket_id_length : (value : SocketId) → length (record_bytes socket_id value) ≡ SOCKET_ID_LEN
unfolding socket_id
socket_id_length value = grind arith

pub socket_id_sound : MeetsLayoutConditions socket_id
unfolding socket_id
socket_id_sound = record {
  size = λ versions. SOCKET_ID_LEN;
  tables = λ family versions left e. grind arith;
  own_table = λ value. grind arith;
  enough = λ value. omega arith;
  room = λ family versions left enough e. enough;
  long = socket_id_length;
  named = λ family left e. grind arith;
  kept = λ family versions left _ _. grind arith;
  tagged = λ family versions left e. grind arith;
  shaped = λ family versions left h e. grind arith;
  owned = λ family versions left h e. grind arith;
  back = λ family value t n. simp append-nil at (socket_id_inverse value [] t.0);
  tag_written = λ family value t n. n.1;
}

pub socket_id_has_fixed_length : HasFixedSize socket_id SOCKET_ID_LEN
unfolding socket_id
socket_id_has_fixed_length = (refl, socket_id_length)

-- ---- a socket id in another record

-- the values of a socket id that is stored at the offset `by`
pub nested_socket_id_values : (by : ℕ) (left : List ℕ) (versions : IpVersions)
    → values_of (socket_id_fields 0 versions) (drop by left)
    ≡ values_of (socket_id_fields by versions) left
nested_socket_id_values by left = for_each_version_pair _ (simp (get_or-drop, drop-drop, add_assoc))
    (simp (get_or-drop, drop-drop, add_assoc)) (simp (get_or-drop, drop-drop, add_assoc))
    (simp (get_or-drop, drop-drop, add_assoc))

-- the values of a socket id that is stored at the offset `by`, as the last field of a table
pub last_socket_id_values : (by : ℕ) (left : List ℕ) (versions : IpVersions)
    → values_of (socket_id_fields 0 versions) (drop by left)
    ≡ values_of (socket_id_fields by versions ++ []) left
last_socket_id_values by left versions = nested_socket_id_values by left versions
    ∙ ap (λ (fields : List Field). values_of fields left)
    (sym (append-nil (socket_id_fields by versions)))

-- a socket id in range is also in range inside another record
pub nested_socket_id_fits : (by : ℕ) (value : SocketId) → IsInRange socket_id value
    → FitFields (socket_id_fields by (versions_of value)) (socket_id_values value)
unfolding socket_id
nested_socket_id_fits by value in_range = grind arith
