-- An MD5 signature key of a TCP socket, in INET_DIAG_MD5SIG.
use Rattle.std.specs.Prelude.{◌≡◌, ◌==◌, if◌then◌else◌, ℕ, List, [], ◌∷◌, length, take, drop}
use Rattle.std.specs.Prelude.{slice_index, Option, Some, None}
use Rattle.std.specs.Net.Addr.{segments_of}
use Rattle.std.specs.declared.net.ip_addr.IpAddr.{IpAddr}
use Rattle.std.specs.declared.net.ip_addr.IpAddr.TheVariants.{V4, V6}
use Rattle.sock_diag_records.specs.declared.constants.TheConstants.{AF_INET, AF_INET6}
use Rattle.sock_diag_extras.specs.RecordTable.{RecordTable}
use Rattle.sock_diag_extras.specs.declared.md5_signature.Md5Signature.{Md5Signature}
use Rattle.netlink_core.specs.Rows.{u8, u16, u8s}

-- `struct tcp_diag_md5sig` (linux/tcp.h), 100 bytes: `tcpm_family`, `tcpm_prefixlen`,
-- `tcpm_keylen`, `tcpm_addr` and `tcpm_key`. The row `u8s 4 16 address` is an array of 16 bytes at
-- offset 4. `value` makes the record of the numbers in its rows. Counted from 0, numbers 3 to 18
-- are the address and 19 to 98 the key, one number for each byte.
abbrev pub md5_signature : RecordTable Md5Signature
md5_signature = record {
  size = 100;
  rows =
      u8 0 Md5Signature.family ∷
      u8 1 Md5Signature.prefix_length ∷
      u16 2 Md5Signature.key_length ∷
      u8s 4 16 Md5Signature.address ∷
      u8s 20 80 Md5Signature.key ∷ [];
  value = λ numbers. record {
    family = slice_index numbers 0;
    prefix_length = slice_index numbers 1;
    key_length = slice_index numbers 2;
    address = take 16 (drop 3 numbers);
    key = take 80 (drop 19 numbers);
  };
  arrays_fit = λ v. (length v.address ≡ 16) × (length v.key ≡ 80);
}

-- `peer_ip k`: the IP address of the peers. If the family is AF_INET, it is the IPv4 address with
-- the first four bytes of the address as octets; if it is AF_INET6, the IPv6 address with all 16
-- (`segments_of`: eight segments in network byte order); None for any other family.
abbrev pub peer_ip : Md5Signature → Option IpAddr
peer_ip k =
    if k.family == AF_INET
    then Some (V4 record {
      octets = slice_index k.address 0 ∷ slice_index k.address 1 ∷ slice_index k.address 2
          ∷ slice_index k.address 3 ∷ [];
    })
    else if k.family == AF_INET6 then Some (V6 record { segments = segments_of k.address })
    else None

-- `used_key k`: the bytes of the key that are used: the first `key_length`, or all 80 if it is
-- greater
abbrev pub used_key : Md5Signature → List ℕ
used_key k = take k.key_length k.key
