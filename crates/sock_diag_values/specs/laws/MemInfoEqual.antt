-- `==` of `MemInfo`, of its bytes and of its buffer returns true if and only if the values are
-- equal.
use Rattle.std.proofs.Common.{arith, ◌≡◌, ◌↔◌, ◌&&◌, eqb, IsTrue}
use Rattle.std.specs.Option.{option_eq}
use lib.Pointwise.{bytes_decides}
use Rattle.sock_diag_values.specs.declared.inet.mem_info.MemInfo.{MemInfo}
use Rattle.sock_diag_values.specs.declared.inet.mem_info.MemInfoBytes.{MemInfoBytes}
use Rattle.sock_diag_values.specs.declared.inet.mem_info.MemInfoBuffer.{MemInfoBuffer}
use Rattle.sock_diag_values.specs.contracts.inet.mem_info.MemInfoBytesPartialEq.TheImpl.{
  ghosts as buffer_bytes,
}

pub mem_info_equal : (v w : MemInfo)
    → IsTrue (eqb v.receive_queue w.receive_queue && (eqb v.receive_queue_max w.receive_queue_max
    && (eqb v.bottom_send_queues w.bottom_send_queues
    && (eqb v.send_queue_max w.send_queue_max
    && (eqb v.cache w.cache && (eqb v.send_queue w.send_queue
    && (eqb v.options w.options
    && (option_eq eqb v.backlog_queue_length w.backlog_queue_length
    && option_eq eqb v.drops w.drops)))))))) ↔ (v ≡ w)
mem_info_equal v w = (λ h. grind arith, λ e. grind (arith, e))

pub bytes_equal : (v w : MemInfoBytes) → IsTrue (buffer_bytes.eq v w) ↔ (v ≡ w)
bytes_equal v w =
    grind (arith, bytes_decides)

pub buffer_equal : (v w : MemInfoBuffer) → IsTrue (buffer_bytes.eq v.bytes w.bytes) ↔ (v ≡ w)
buffer_equal v w = (λ h. grind (arith, bytes_equal), λ e. grind (arith, bytes_equal, e))
