-- Facts of arrays of records in the values of attributes.
use Rattle.std.specs.Prelude.{ℕ, zero, suc, ◌/◌, List, [], ◌∷◌, codes, drop, length, map}
use Rattle.std.specs.Prelude.{Option}
use Rattle.std.specs.Option.{option_map_or}
use Rattle.std.specs.Net.Text.{ip_text}
use Rattle.std.specs.declared.net.ip_addr.IpAddr.{IpAddr}
use Rattle.sslist_texts.specs.JsonData.{JsonMember, address_member, array_member, object_of}
use Rattle.sock_diag_extras.specs.RecordTable.{RecordTable, parse_by_table}
use Rattle.sslist_facts.specs.Facts.{Facts, separated_records}

-- an IP address of a record, or `*` if its family has none (None)
abbrev pub ip_or_star : Option IpAddr → List ℕ
ip_or_star ip = option_map_or ip_text ip (codes "*")

-- the member `addr` with an IP address of a record; no member if its family has none (None)
unfoldable pub ip_member : Option IpAddr → List JsonMember
ip_member ip = option_map_or (address_member (codes "addr")) ip []

-- `first_records layout count bytes`: the first `count` records of this layout in the bytes
abbrev pub first_records : {A : Type 0} → RecordTable A → ℕ → List ℕ → List A
first_records layout zero bytes = []
first_records layout (suc count) bytes =
    parse_by_table layout bytes ∷ first_records layout count (drop layout.size bytes)

-- `records_in layout bytes`: all whole records of this layout in the bytes
unfoldable pub records_in : {A : Type 0} → RecordTable A → List ℕ → List A
records_in layout bytes = first_records layout (length bytes / layout.size) bytes

-- `records_facts text members before later member records`: the table shows the text of the first
-- record after `before`, and that of each later one after `later`. JSON has the array `member` of
-- objects with their members.
unfoldable pub records_facts : {A : Type 0} → (A → List ℕ) → (A → List JsonMember) → List ℕ
    → List ℕ → List ℕ → List A → Facts
records_facts text members before later member records = record {
  text = separated_records text before later records;
  members = array_member member (map (λ r. object_of (members r)) records);
}
