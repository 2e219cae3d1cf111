-- Facts of a value, and what they are shown as. Texts are lists of bytes: 41 is a closing
-- parenthesis and 44 a comma.
use Rattle.std.specs.Prelude.{◌≡◌, ℕ, ◌==◌, ◌/◌, ◌%◌, ◌||◌, if◌then◌else◌, Bool, List, [], ◌∷◌}
use Rattle.std.specs.Prelude.{◌++◌, bit_and, codes, decimal, false, flat_map}
use Rattle.std.specs.Prelude.{Option, None, Some, option_map}
use Rattle.std.specs.Prelude.{unwrap_or}
use Rattle.std.specs.Borrow.{Bor}
use Rattle.std.specs.Fmt.{digits}
use Rattle.std.specs.Option.{option_map_or}
use Rattle.sslist_texts.specs.Escapes.{shown_name}
use Rattle.sslist_texts.specs.JsonData.{JsonMember, bytes_member, flag_member, numbers_member}
use Rattle.sslist_texts.specs.JsonData.{object_member, optional_member, text_member}
use Rattle.sslist_facts.specs.NumberNames.{directions, fanout_mode_name, flag_letters}
use Rattle.sslist_facts.specs.NumberNames.{tls_cipher_name, tls_mode_name, tls_version_name}
use Rattle.sslist_facts.specs.declared.facts.Shown.{Shown}
use Rattle.sslist_facts.specs.declared.facts.Shown.TheVariants.{Always, Bits, Cipher, Closed}
use Rattle.sslist_facts.specs.declared.facts.Shown.TheVariants.{Directions, FanoutMode, Halves}
use Rattle.sslist_facts.specs.declared.facts.Shown.TheVariants.{Hex, Letters, Mode, Never, Nonzero}
use Rattle.sslist_facts.specs.declared.facts.Shown.TheVariants.{NonzeroExcept, NonzeroHex}
use Rattle.sslist_facts.specs.declared.facts.Shown.TheVariants.{Version}

-- `Facts`: their text in the table, and their members in JSON. A definition says once which facts a
-- value has. Some have no text in the table (`Never`), and some no member in JSON (None).
pub record Facts : Type 0 where
  pub text : List ℕ
  pub members : List JsonMember

-- no facts
abbrev pub no_facts : Facts
no_facts = record { text = []; members = [] }

-- `both a b`: the facts `a`, and after them the facts `b`
abbrev pub both : Facts → Facts → Facts
both a b = record { text = a.text ++ b.text; members = a.members ++ b.members }

-- `facts_of_each facts items`: the facts of each item of a list, in order
abbrev pub facts_of_each : {Item : Type 0} → (Item → Facts) → List Item → Facts
facts_of_each facts items = record {
  text = flat_map (λ item. (facts item).text) items;
  members = flat_map (λ item. (facts item).members) items;
}

-- `group opening closing member facts`: facts that belong together. The table has `opening` before
-- them and `closing` after them, and JSON has the object `member` with them.
abbrev pub group : List ℕ → List ℕ → List ℕ → Facts → Facts
group opening closing member facts = record {
  text = opening ++ (facts.text ++ closing);
  members = object_member member facts.members;
}

-- `json_group member facts`: facts that belong together. JSON has the object `member` with them,
-- and the table has no text around them (`[]`).
abbrev pub json_group : List ℕ → Facts → Facts
json_group member facts = group [] [] member facts

-- ---- numbers

-- `number_text format text n`: the number `n` in the table, by `format` (`Shown` of `src/facts.rt`)
-- and after `text`. 0xffffffffffffffff is `u64::MAX`, and `digits 16 false n` are hexadecimal
-- digits in lowercase.
abbrev pub number_text : Shown → List ℕ → ℕ → List ℕ
number_text Never text n = []
number_text Always text n = text ++ decimal n
number_text Closed text n = text ++ decimal n ++ 41 ∷ []
number_text Nonzero text n =
    if n == 0 || n == 0xffffffffffffffff then [] else text ++ decimal n
number_text (NonzeroExcept unknown) text n =
    if n == 0 || n == unknown then [] else text ++ decimal n
number_text Hex text n = text ++ digits 16 false n
number_text NonzeroHex text n = if n == 0 then [] else text ++ digits 16 false n
number_text (Bits bits) text n = if bit_and n bits == 0 then [] else text
number_text Halves text n = text ++ decimal (n % 16) ++ 44 ∷ decimal (n / 16) ++ 41 ∷ []
number_text Directions text n = text ++ directions n
number_text Version text n = text ++ unwrap_or (tls_version_name n) (decimal n)
number_text Cipher text n = text ++ unwrap_or (tls_cipher_name n) (decimal n)
number_text Mode text n = text ++ unwrap_or (tls_mode_name n) (decimal n)
number_text Letters text n = if n == 0 then [] else text ++ flag_letters n
number_text FanoutMode text n =
    text ++ unwrap_or (fanout_mode_name n) (codes "0x" ++ digits 16 false n)

-- `named_member member n`: the number `n` in JSON, under the name `member`; no member for None
abbrev pub named_member : Option (List ℕ) → ℕ → List JsonMember
named_member None n = []
named_member (Some name) n = optional_member name (Some n)

-- `number_facts format text member n`: the number `n`. The table shows it by `format`, after
-- `text`. JSON has it under `member`, or not at all for None.
unfoldable pub number_facts : Shown → List ℕ → Option (List ℕ) → ℕ → Facts
number_facts format text member n = record {
  text = number_text format text n;
  members = named_member member n;
}

-- a number of a record: how the table shows it (`.0`), its text there (`.1`), its name in JSON
-- (`.2`), and the number (`.3`), or None if it is absent
abbrev pub NumberRow : Type 0
NumberRow = Shown × List ℕ × Option (List ℕ) × Option ℕ

-- the model of a row in the program (`NumberRow` of `src/facts.rt`), whose texts are borrowed
abbrev pub number_row_of : Shown × Bor (List ℕ) × Option (Bor (List ℕ)) × Option ℕ → NumberRow
number_row_of row = (row.0, row.1.now, option_map (λ member. member.now) row.2, row.3)

-- the fact of a row; no fact if its number is None
abbrev pub number_row_facts : NumberRow → Facts
number_row_facts row = option_map_or (number_facts row.0 row.1 row.2) row.3 no_facts

-- the facts of these rows, in order
unfoldable pub numbers : List NumberRow → Facts
numbers rows = facts_of_each number_row_facts rows

-- `shown_number text member n`: the row of a number that the table shows after `text`, and JSON has
-- under `member`
abbrev pub shown_number : List ℕ → List ℕ → ℕ → NumberRow
shown_number text member n = (Always, text, Some member, Some n)

-- `hidden_number member n`: the row of a number that only JSON has, under `member`
abbrev pub hidden_number : List ℕ → ℕ → NumberRow
hidden_number member n = (Never, [], Some member, Some n)

-- `flag_number bits text n`: the row of a text that the table shows if the number `n` has one of
-- these bits. JSON does not have it.
abbrev pub flag_number : ℕ → List ℕ → ℕ → NumberRow
flag_number bits text n = (Bits bits, text, None, Some n)

-- ---- other values

-- `flag_facts format text member flag`: a flag. The table shows it as the number 0 or 1, by
-- `format` and after `text`. JSON has it under `member`, as `true` or `false`.
unfoldable pub flag_facts : Shown → List ℕ → List ℕ → Bool → Facts
flag_facts format text member flag = record {
  text = number_text format text (if flag then 1 else 0);
  members = flag_member member flag;
}

-- `text_facts utf8 text member name`: a name. The table shows it after `text`, escaped as names of
-- sockets are; `utf8` is the option `--utf8`. JSON has it under `member`.
unfoldable pub text_facts : Bool → List ℕ → List ℕ → List ℕ → Facts
text_facts utf8 text member name = record {
  text = text ++ shown_name utf8 name;
  members = text_member member name;
}

-- `separated_records text before later records`: the texts of records: the first one after the text
-- `before`, and each later one after the text `later`
abbrev pub separated_records : {A : Type 0} → (A → List ℕ) → List ℕ → List ℕ → List A → List ℕ
separated_records text before later [] = []
separated_records text before later (r ∷ rs) =
    before ++ (text r ++ separated_records text later later rs)

-- `list_facts before later member ns`: the numbers `ns`. The table shows the first one after
-- `before`, and each later one after `later`. JSON has the array `member`.
unfoldable pub list_facts : List ℕ → List ℕ → List ℕ → List ℕ → Facts
list_facts before later member ns = record {
  text = separated_records decimal before later ns;
  members = numbers_member member ns;
}

-- `bytes_facts member hex_member bytes`: bytes that the owner of a socket chose. Only JSON has
-- them: under `member` if they are valid UTF-8, or else their hexadecimal digits under
-- `hex_member`.
unfoldable pub bytes_facts : List ℕ → List ℕ → List ℕ → Facts
bytes_facts member hex_member bytes = record {
  text = [];
  members = bytes_member member hex_member bytes;
}

-- ---- sinks

-- What a sink (`src/facts.rt`) shows: a list of items, bytes in the table and tokens in JSON.
-- `items facts` are the items of facts.
pub record SinkContent {Item : Type 0} (items : Facts → List Item) : Type 0 where
  -- the items that were appended so far
  pub shown : List Item
  -- the text in the sink before the first item; no fact changes it
  pub text_before : List ℕ

-- `AddsItems old new added`: the items `added` were appended to the content `old` of a sink, which
-- then is `new`. `Item` and `items` are those of the sink.
abbrev pub AddsItems : {Item : Type 0} {items : Facts → List Item} → SinkContent items
    → SinkContent items → List Item → Type 0
AddsItems old new added =
    (new.text_before ≡ old.text_before) × (new.shown ≡ old.shown ++ added)

-- `AddsFacts old new facts`: the items of these facts were appended to the content `old` of a sink,
-- which then is `new`
abbrev pub AddsFacts : {Item : Type 0} {items : Facts → List Item} → SinkContent items
    → SinkContent items → Facts → Type 0
AddsFacts {items = items} old new facts = AddsItems old new (items facts)
