-- The records in a value, one after the other.
use Rattle.std.proofs.Common.{arith, ◌≡◌, ℕ, suc, ◌/◌, ◌+◌, ◌<◌, ◌≤◌, List, [], ◌∷◌, ap, drop}
use Rattle.std.proofs.Common.{◌++◌, ◌-◌, ◌∙◌, append-nil, append_assoc, codes, flat_map, length}
use Rattle.std.proofs.Common.{length-drop, None, refl, Some, sym, take}
use Rattle.std.proofs.lemmas.List.{take_rest}
use Rattle.std.proofs.Math.Nat.{div-eq-sub-div, div-eq_of_lt}
use Rattle.std.specs.declared.net.ip_addr.IpAddr.{IpAddr}
use Rattle.sock_diag_extras.specs.RecordTable.{RecordTable, parse_by_table}
use Rattle.sslist_facts.specs.Facts.{separated_records}
use Rattle.sslist_facts.specs.RecordFacts.{first_records, ip_member, records_in}
use Rattle.sslist_texts.specs.JsonData.{address_member}
use Rattle.sslist_texts.specs.JsonWriting.{members_tokens}

-- The first record, and those after it.
pub records_step : {A : Type 0} (layout : RecordTable A) (bytes : List ℕ)
    → 0 < layout.size → layout.size ≤ length bytes
    → records_in layout bytes
    ≡ parse_by_table layout bytes ∷ records_in layout (drop layout.size bytes)
unfolding records_in
records_step layout bytes positive long =
    let size = layout.size in
    let one_more : length bytes / size ≡ (length bytes - size) / size + 1 =
    div-eq-sub-div positive long in
    let shorter : (length bytes - size) / size ≡ length (drop size bytes) / size =
    ap (λ (n : ℕ). n / size) (sym (length-drop size bytes)) in
    let more : length bytes / size ≡ suc (length (drop size bytes) / size) =
    omega (arith, one_more, shorter) in
    ap (λ (count : ℕ). first_records layout count bytes) more

-- No record is left.
pub records_end : {A : Type 0} (layout : RecordTable A) (bytes : List ℕ)
    → length bytes < layout.size → records_in layout bytes ≡ []
unfolding records_in
records_end layout bytes short =
    let none : length bytes / layout.size ≡ 0 = div-eq_of_lt short in
    ap (λ (count : ℕ). first_records layout count bytes) none

-- The bytes after a record of `n` bytes.
after_record : (rest : List ℕ) (n size : ℕ) → n ≡ size
    → take (length rest - n) (drop n rest) ≡ drop size rest
after_record rest n size same = take_rest rest n ∙ ap (λ (k : ℕ). drop k rest) same

-- What is appended for a record, followed by what the records after it yield, is what all of them
-- yield.
pub record_mapped : {A B : Type 0} (layout : RecordTable A) (n : ℕ) (f : A → List B)
    (before after whole : List B) (rest : List ℕ) (r : A) → n ≡ layout.size
    → 0 < layout.size → layout.size ≤ length rest → r ≡ parse_by_table layout rest
    → after ≡ before ++ f r
    → before ++ flat_map f (records_in layout rest) ≡ whole
    → after ++ flat_map f (records_in layout (take (length rest - n) (drop n rest)))
    ≡ whole
record_mapped {A} {B} layout n f before after whole rest r same positive long is added so_far =
    let later = flat_map f (records_in layout (drop layout.size rest)) in
    ap (λ (b : List ℕ). after ++ flat_map f (records_in layout b))
    (after_record rest n layout.size same)
    ∙ ap (λ (t : List B). t ++ later) (added ∙ ap (λ (x : A). before ++ f x) is)
    ∙ append_assoc before (f (parse_by_table layout rest)) later
    ∙ sym (ap (λ (rs : List A). before ++ flat_map f rs)
    (records_step layout rest positive long))
    ∙ so_far

-- A separator and the text of a record, followed by the records after it, are the text of all.
pub record_pushed : {A : Type 0} (layout : RecordTable A) (n : ℕ) (f : A → List ℕ)
    (before mid after whole rest separator next : List ℕ) (r : A) → n ≡ layout.size
    → 0 < layout.size → layout.size ≤ length rest → r ≡ parse_by_table layout rest
    → mid ≡ before ++ separator → after ≡ mid ++ f r
    → before ++ separated_records f separator next (records_in layout rest) ≡ whole
    → after ++ separated_records f next next
    (records_in layout (take (length rest - n) (drop n rest))) ≡ whole
record_pushed {A} layout n f before mid after whole rest separator next r same positive long is
    first added so_far =
    let later = separated_records f next next (records_in layout (drop layout.size rest)) in
    ap (λ (b : List ℕ). after ++ separated_records f next next (records_in layout b))
    (after_record rest n layout.size same)
    ∙ ap (λ (t : List ℕ). t ++ later) (added ∙ ap (λ (t : List ℕ). t ++ f r) first)
    ∙ ap (λ (x : A). ((before ++ separator) ++ f x) ++ later) is
    ∙ append_assoc (before ++ separator) (f (parse_by_table layout rest)) later
    ∙ append_assoc before separator (f (parse_by_table layout rest) ++ later)
    ∙ sym (ap (λ (rs : List A). before ++ separated_records f separator next rs)
    (records_step layout rest positive long))
    ∙ so_far

-- If there is no address, there is no member and no token.
pub no_ip_tokens : members_tokens (ip_member None) ≡ []
unfolding ip_member members_tokens
no_ip_tokens = refl

-- If there is an address, it is the value of the member.
pub some_ip_member : (ip : IpAddr) → ip_member (Some ip) ≡ address_member (codes "addr") ip
unfolding ip_member
some_ip_member ip = refl

-- the two cases of `ip_member`
pub ruleset ip_rules = (append-nil, no_ip_tokens, some_ip_member)
