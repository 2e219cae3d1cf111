-- The filter of a packet socket, PACKET_DIAG_FILTER. Each instruction has the text of ss(8), but
-- its code has no leading zeros. Names in JSON are those of `struct sock_filter`. Texts are lists
-- of ASCII codes: 32 is a space.
use Rattle.std.specs.Prelude.{ℕ, List, [], ◌∷◌, ◌++◌, codes, decimal, false}
use Rattle.std.specs.Fmt.{digits}
use Rattle.sock_diag_extras.specs.FilterInstruction.{filter_instruction}
use Rattle.sock_diag_extras.specs.declared.filter_instruction.FilterInstruction.{FilterInstruction}
use Rattle.sslist_texts.specs.JsonData.{JsonMember, number_members}
use Rattle.sslist_facts.specs.Facts.{Facts}
use Rattle.sslist_facts.specs.RecordFacts.{records_facts, records_in}

-- the text of an instruction, such as `0x15 0 8 2048`
unfoldable pub instruction_text : FilterInstruction → List ℕ
instruction_text i =
    codes "0x" ++ digits 16 false i.code ++ 32 ∷ decimal i.jump_if_met ++ 32
    ∷ decimal i.jump_if_not_met ++ 32 ∷ decimal i.operand

-- the members of an instruction
unfoldable pub instruction_members : FilterInstruction → List JsonMember
instruction_members i =
    number_members ((codes "code", i.code) ∷ (codes "jt", i.jump_if_met) ∷
    (codes "jf", i.jump_if_not_met) ∷ (codes "k", i.operand) ∷ [])

-- the instructions of the filter in the value of an attribute: separated by commas in the table,
-- and the array `filter` of their objects in JSON
abbrev pub filter_facts : List ℕ → Facts
filter_facts value =
    records_facts instruction_text instruction_members (codes " bpf filter:") (codes ",")
    (codes "filter") (records_in filter_instruction value)
