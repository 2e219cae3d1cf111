-- `==` of the records that contain other records returns true if and only if all fields are equal.
use Rattle.std.proofs.Common.{arith, ◌≡◌, ◌↔◌, ◌&&◌, Bool, eqb, IsTrue}
use Rattle.std.specs.Option.{option_eq}
use Rattle.sock_diag_records.specs.declared.inet.socket_id.SocketId.{SocketId}
use Rattle.sock_diag_records.specs.declared.inet.request.InetRequest.{InetRequest}
use Rattle.sock_diag_records.specs.declared.inet.response.Timer.{Timer}
use Rattle.sock_diag_records.specs.declared.inet.response.InetResponseHeader.{InetResponseHeader}

module _ (socket : SocketId → SocketId → Bool) (same_socket : (a b : SocketId) → IsTrue (socket a b)
    ↔ (a ≡ b)) where
  pub inet_request_equal : (v w : InetRequest)
      → IsTrue (eqb v.family w.family
      && (eqb v.protocol w.protocol
      && (eqb v.extensions.0 w.extensions.0
      && (eqb v.states.0 w.states.0 && socket v.socket_id w.socket_id)))) ↔ (v ≡ w)
  inet_request_equal v w = (λ h. grind (arith, same_socket), λ e. grind (arith, same_socket, e))

  module _ (timer : Timer → Timer → Bool) (same_timer : (a b : Timer) → IsTrue (timer a b)
      ↔ (a ≡ b)) where
    pub inet_response_header_equal : (v w : InetResponseHeader)
        → IsTrue (eqb v.family w.family
        && (eqb v.state w.state && (option_eq timer v.timer w.timer
        && (socket v.socket_id w.socket_id
        && (eqb v.recv_queue w.recv_queue
        && (eqb v.send_queue w.send_queue && (eqb v.uid w.uid && eqb v.inode w.inode)))))))
        ↔ (v ≡ w)
    inet_response_header_equal v w =
        grind arith
