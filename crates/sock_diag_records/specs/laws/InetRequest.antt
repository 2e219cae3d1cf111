-- The layout `inet_request` is sound (`MeetsLayoutConditions`), and has a fixed length of 56 bytes.
use Rattle.std.proofs.Common.{◌≡◌, [], ◌∷◌, ◌++◌, length, refl, arith}
use Rattle.netlink_core.specs.laws.LayoutObligations.{MeetsLayoutConditions, HasFixedSize}
use Rattle.netlink_core.specs.Layout.{record_bytes}
use Rattle.byteorder.specs.Endian.{little_bytes}
use Rattle.sock_diag_records.specs.declared.inet.request.InetRequest.{InetRequest}
use Rattle.sock_diag_records.specs.declared.inet.request.TheConstants.{INET_REQUEST_LEN}
use Rattle.sock_diag_records.specs.SocketId.{socket_id}
use Rattle.sock_diag_records.specs.InetRequest.{inet_request}
use Rattle.sock_diag_records.specs.laws.SocketId.{socket_id_inverse}

-- a request serializes to its first eight bytes and then its socket id
pub inet_request_serializes_to : (value : InetRequest)
    → record_bytes inet_request value
    ≡ (value.family ∷ value.protocol ∷ value.extensions.0 ∷ 0 ∷ [])
    ++ (little_bytes 4 value.states.0 ++ record_bytes socket_id value.socket_id)
unfolding inet_request socket_id
inet_request_serializes_to value = grind arith

pub inet_request_length : (value : InetRequest)
    → length (record_bytes inet_request value) ≡ INET_REQUEST_LEN
unfolding inet_request
inet_request_length value = grind arith

pub inet_request_sound : MeetsLayoutConditions inet_request
unfolding inet_request
inet_request_sound = record {
  size = λ versions. INET_REQUEST_LEN;
  tables = λ param versions left e. grind arith;
  own_table = λ value. grind arith;
  enough = λ value. omega arith;
  room = λ param versions left enough e. enough;
  long = inet_request_length;
  named = λ param left e. grind arith;
  kept = λ param versions left _ _. grind arith;
  tagged = λ param versions left e. grind arith;
  shaped = λ param versions left h e. grind arith;
  owned = λ param versions left h e. grind arith;
  back = λ param value t n. rw (socket_id_inverse value.socket_id [] t.0);
  tag_written = λ param value t n. n.1;
}

pub inet_request_has_fixed_length : HasFixedSize inet_request INET_REQUEST_LEN
unfolding inet_request
inet_request_has_fixed_length = (refl, inet_request_length)
