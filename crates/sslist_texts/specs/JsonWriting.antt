-- What functions that write JSON append to a writer.
use Rattle.std.specs.Prelude.{◌≡◌, List, ◌∷◌, flat_map, OnOk, Result}
use Rattle.json.specs.Json.{Json}
use Rattle.json.specs.Token.{Token, key}
use Rattle.json.specs.Tree.{json_tokens}
use Rattle.json.specs.Written.{Written}
use Rattle.sslist_texts.specs.JsonData.{JsonMember}

-- the tokens of members of an object: for each its name (`.0`) and its value (`.1`)
unfoldable pub members_tokens : List JsonMember → List Token
members_tokens members = flat_map (λ member. key member.0 ∷ json_tokens member.1) members

-- the tokens of items of an array
unfoldable pub items_tokens : List Json → List Token
items_tokens items = flat_map json_tokens items

-- ---- the effect of a function with this result on a writer, with its states before and after

-- `KeepsPrefix result old new`: unless an allocation failed, the bytes that the buffer had before
-- the writer's first token (`before`) are unchanged.
abbrev pub KeepsPrefix : {E : Type 0} → Result (Unit {0}) E → Written → Written → Type 0
KeepsPrefix result old new = OnOk result (new.before ≡ old.before)
