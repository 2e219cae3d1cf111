-- The memberships of a packet socket, PACKET_DIAG_MCLIST. Only JSON has them, since ss(8) does not
-- show them. Names in JSON are the kernel's names without the prefix `pdmc_`.
use Rattle.std.specs.Prelude.{ℕ, List, [], ◌∷◌, ◌++◌, codes}
use Rattle.sock_diag_extras.specs.PacketMembership.{packet_membership, used_address}
use Rattle.sock_diag_extras.specs.declared.membership.PacketMembership.{PacketMembership}
use Rattle.sslist_texts.specs.JsonData.{JsonMember, digits_member, number_members}
use Rattle.sslist_facts.specs.Facts.{Facts}
use Rattle.sslist_facts.specs.RecordFacts.{records_facts, records_in}

-- the table has no text of a membership
abbrev pub membership_text : PacketMembership → List ℕ
membership_text m = []

-- the members of a membership; `addr` has the bytes that are used, in lowercase hexadecimal digits
unfoldable pub membership_members : PacketMembership → List JsonMember
membership_members m =
    number_members ((codes "index", m.interface) ∷ (codes "count", m.count) ∷
    (codes "type", m.kind) ∷ (codes "alen", m.address_length) ∷ [])
    ++ digits_member (codes "addr") (used_address m)

-- the array `mclist` of the memberships in the value of an attribute in JSON
abbrev pub memberships_facts : List ℕ → Facts
memberships_facts value =
    records_facts membership_text membership_members [] [] (codes "mclist")
    (records_in packet_membership value)
