-- A membership of a packet socket in PACKET_DIAG_MCLIST, 44 bytes.
use Rattle.std.specs.Prelude.{◌≡◌, ℕ, List, [], ◌∷◌, length, take, drop, slice_index}
use Rattle.netlink_core.specs.Rows.{u16, u32, u8s}
use Rattle.sock_diag_extras.specs.RecordTable.{RecordTable}
use Rattle.sock_diag_extras.specs.declared.membership.PacketMembership.{PacketMembership}

-- `struct packet_diag_mclist` (linux/packet_diag.h): `pdmc_index`, `pdmc_count`, `pdmc_type`,
-- `pdmc_alen` and `pdmc_addr`. `value` makes the record of the numbers in its rows. Counted from 0,
-- numbers 4 to 35 are the address, one number for each byte.
abbrev pub packet_membership : RecordTable PacketMembership
packet_membership = record {
  size = 44;
  rows =
      u32 0 PacketMembership.interface ∷
      u32 4 PacketMembership.count ∷
      u16 8 PacketMembership.kind ∷
      u16 10 PacketMembership.address_length ∷
      u8s 12 32 PacketMembership.address ∷ [];
  value = λ numbers. record {
    interface = slice_index numbers 0;
    count = slice_index numbers 1;
    kind = slice_index numbers 2;
    address_length = slice_index numbers 3;
    address = take 32 (drop 4 numbers);
  };
  arrays_fit = λ v. length v.address ≡ 32;
}

-- `used_address m`: the bytes of the address that are used: the first `address_length`, or all 32
-- if it is greater
abbrev pub used_address : PacketMembership → List ℕ
used_address m = take m.address_length m.address
