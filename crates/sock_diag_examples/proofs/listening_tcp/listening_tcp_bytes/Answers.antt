use Rattle.std.proofs.Common.{◌≡◌, [], ◌∷◌, ◌++◌, replicate, ℕ, refl, arith}
use Rattle.byteorder.specs.Endian.{little_bytes}
use Rattle.netlink_core.specs.NetlinkMessage.{netlink_codec}
use Rattle.netlink_packet_sock_diag.specs.Message.{message_codec}
use Rattle.sock_diag_records.specs.InetRequest.{inet_request}
use Rattle.sock_diag_examples.specs.declared.listening_tcp.Family.{Family}
use Rattle.sock_diag_examples.specs.declared.listening_tcp.Family.TheVariants.{Inet, Inet6}
use Rattle.sock_diag_examples.specs.ListeningTcp.{family_number, listening_request}
use Rattle.sock_diag_examples.proofs.listening_tcp.listening_tcp_bytes.Goals as goal

-- the bytes of the request for each family
request_bytes : (family : Family) (n : ℕ)
    → (netlink_codec message_codec).serialized (listening_request family n)
    ≡ (72 ∷ 0 ∷ 0 ∷ 0 ∷ 20 ∷ 0 ∷ 1 ∷ 3 ∷ [])
    ++ (little_bytes 4 n ++ (0 ∷ 0 ∷ 0 ∷ 0 ∷ family_number family ∷ 6 ∷ 0 ∷ 0 ∷ 0
    ∷ 4 ∷ 0 ∷ 0 ∷ replicate 48 0))
unfolding inet_request
request_bytes Inet n = refl
request_bytes Inet6 n = refl

pub returns-clause-bytes : goal.returns-clause-bytes
returns-clause-bytes c =
    grind (
      arith,
      request_bytes c.args.family c.args.sequence_number,
      c.serialize.ensures.written,
      c.listening_tcp.ensures,
    )
