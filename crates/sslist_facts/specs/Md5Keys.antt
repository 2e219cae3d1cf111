-- The MD5 keys of a TCP socket, INET_DIAG_MD5SIG: an array of records of 100 bytes. The texts are
-- those of ss(8), but for the bytes of a key that are escaped. Names in JSON are the kernel's names
-- without the prefix `tcpm_`. Texts are lists of ASCII codes: 44 is a comma, 47 a slash, 61 an
-- equals sign.
use Rattle.std.specs.Prelude.{ℕ, ◌==◌, if◌then◌else◌, List, [], ◌∷◌, ◌++◌, codes, decimal}
use Rattle.std.specs.Prelude.{flat_map}
use Rattle.sock_diag_extras.specs.Md5Signature.{md5_signature, peer_ip, used_key}
use Rattle.sock_diag_extras.specs.declared.md5_signature.Md5Signature.{Md5Signature}
use Rattle.sslist_texts.specs.Escapes.{byte_digits, escaped_byte}
use Rattle.sslist_texts.specs.JsonData.{JsonMember, digits_member, number_members}
use Rattle.sslist_facts.specs.Facts.{Facts}
use Rattle.sslist_facts.specs.RecordFacts.{ip_member, ip_or_star, records_facts, records_in}

-- a byte of a key, escaped as in names; a comma, which separates keys, is escaped too
abbrev pub key_byte : ℕ → List ℕ
key_byte byte = if byte == 44 then byte_digits byte else escaped_byte byte

-- the text of a key: the address of the peers, a slash, the length of the prefix, an equals sign,
-- and the bytes of the key. Example: `192.0.2.0/24=secret`.
unfoldable pub md5_key_text : Md5Signature → List ℕ
md5_key_text k =
    ip_or_star (peer_ip k) ++ 47 ∷ decimal k.prefix_length ++ 61 ∷ flat_map key_byte (used_key k)

-- the members of a key; `key` has the bytes that are used, in lowercase hexadecimal digits
unfoldable pub md5_key_members : Md5Signature → List JsonMember
md5_key_members k =
    number_members ((codes "family", k.family) ∷ (codes "prefixlen", k.prefix_length)
    ∷ (codes "keylen", k.key_length) ∷ [])
    ++ (ip_member (peer_ip k) ++ digits_member (codes "key") (used_key k))

-- `md5_facts value`: the keys in the value of INET_DIAG_MD5SIG: ` md5keys:` and the keys in the
-- table, or nothing if there are none; the array `md5sig` of their objects in JSON
abbrev pub md5_facts : List ℕ → Facts
md5_facts value =
    records_facts md5_key_text md5_key_members (codes " md5keys:") (codes ",") (codes "md5sig")
    (records_in md5_signature value)
