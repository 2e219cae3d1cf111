-- The addresses of an SCTP socket or association, INET_DIAG_LOCALS and INET_DIAG_PEERS: arrays of
-- `struct sockaddr_storage`, 128 bytes. The texts are those of ss(8), and names in JSON are the
-- kernel's names without the prefixes `sin_` and `sin6_`.
use Rattle.std.specs.Prelude.{ℕ, List, [], ◌∷◌, ◌++◌, codes}
use Rattle.sock_diag_extras.specs.StoredAddress.{ip_of, stored_address}
use Rattle.sock_diag_extras.specs.declared.stored_address.StoredAddress.{StoredAddress}
use Rattle.sslist_texts.specs.JsonData.{JsonMember, number_members}
use Rattle.sslist_facts.specs.Facts.{Facts}
use Rattle.sslist_facts.specs.RecordFacts.{ip_member, ip_or_star, records_facts, records_in}

-- the text of an address
abbrev pub stored_address_text : StoredAddress → List ℕ
stored_address_text a = ip_or_star (ip_of a)

-- the members of an address
unfoldable pub stored_address_members : StoredAddress → List JsonMember
stored_address_members a =
    number_members ((codes "family", a.family) ∷ (codes "port", a.port) ∷ [])
    ++ ip_member (ip_of a)

-- `addresses_facts before member value`: the addresses in the value of an attribute: separated by
-- commas in the table, after the text `before`; the array `member` of their objects in JSON
abbrev pub addresses_facts : List ℕ → List ℕ → List ℕ → Facts
addresses_facts before member value =
    records_facts stored_address_text stored_address_members before (codes ",") member
    (records_in stored_address value)
