-- Tokens of members of JSON objects.
use Rattle.std.proofs.Common.{arith, ◌≡◌, ℕ, List, [], ◌∷◌, ◌++◌, ◌∙◌, Bool, true, cond}
use Rattle.std.proofs.Common.{refl, sym, ap, map, flat_map, decimal, IsUtf8, append_assoc}
use Rattle.std.proofs.Common.{append-nil, None, Some}
use Rattle.std.specs.Borrow.{Bor}
use Rattle.std.specs.Str.{is_utf8}
use Rattle.std.proofs.lemmas.Grind.{flat_map-append}
use Rattle.std.proofs.lemmas.Str.{IsUtf8-from_is_utf8, is_utf8-from_IsUtf8}
use Rattle.hex.specs.Hex.{encode_lower}
use Rattle.json.specs.Json.{Json}
use Rattle.json.specs.Token.{Token, begin_array, begin_object, end_array, end_object, key, number}
use Rattle.json.specs.Token.{boolean, string}
use Rattle.json.specs.Tree as tree
use Rattle.sslist_texts.specs.JsonData.{JsonMember, bytes_member, flag_member, items_of}
use Rattle.sslist_texts.specs.JsonData.{number_members, number_value, numbers_member}
use Rattle.sslist_texts.specs.JsonData.{array_member, text_member}
use Rattle.sslist_texts.specs.JsonData.{object_of, optional_member}
use Rattle.sslist_texts.specs.JsonWriting.{items_tokens, members_tokens}
use Rattle.sslist_texts.specs.laws.MemberTokens.{tokens_append, object_end, object_member_tokens}

-- The tokens of rows of numbers are those of their members.
pub rows_are_members : (rows : List (Bor (List ℕ) × ℕ))
    → members_tokens (number_members (map (λ row. (row.0.now, row.1)) rows))
    ≡ flat_map (λ row. key row.0.now ∷ number (decimal row.1) ∷ []) rows
unfolding members_tokens number_members
rows_are_members [] = refl
rows_are_members (row ∷ later) =
    ap (λ (t : List Token). key row.0.now ∷ number (decimal row.1) ∷ t) (rows_are_members later)

-- the tokens of a member whose value is a string
pub text_member_tokens : (name text : List ℕ)
    → members_tokens (text_member name text) ≡ key name ∷ string text ∷ []
unfolding members_tokens text_member
text_member_tokens name text = refl

-- the tokens of a member whose value is a number
pub number_member_tokens : (name : List ℕ) (n : ℕ)
    → members_tokens (optional_member name (Some n)) ≡ key name ∷ number (decimal n) ∷ []
unfolding members_tokens optional_member
number_member_tokens name n = refl

-- No member has no tokens.
pub no_member_tokens : (name : List ℕ) → members_tokens (optional_member name None) ≡ []
unfolding members_tokens optional_member
no_member_tokens name = refl

-- the tokens of a member whose value is `true` or `false`
pub flag_member_tokens : (name : List ℕ) (flag : Bool)
    → members_tokens (flag_member name flag) ≡ key name ∷ boolean flag ∷ []
unfolding members_tokens flag_member
flag_member_tokens name flag = refl

-- the rules by which the tokens of a member with a plain value are put together
pub ruleset plain_member_rules = (
  append_assoc,
  append-nil,
  text_member_tokens,
  number_member_tokens,
  no_member_tokens,
  flag_member_tokens,
)

-- the tokens of an array, after its beginning
pub array_end : (items : List Json)
    → tree.items_tokens (items_of items) ≡ items_tokens items ++ end_array ∷ []
unfolding items_tokens
array_end [] = refl
array_end (value ∷ later) =
    ap (λ (t : List Token). tree.json_tokens value ++ t) (array_end later)
    ∙ sym (append_assoc (tree.json_tokens value) _ _)

-- the tokens of a member whose value is an array
pub array_member_tokens : (name : List ℕ) (items : List Json)
    → members_tokens (array_member name items)
    ≡ key name ∷ begin_array ∷ (items_tokens items ++ end_array ∷ [])
unfolding members_tokens array_member
array_member_tokens name items =
    ap (λ (t : List Token). key name ∷ begin_array ∷ t)
    (append-nil (tree.items_tokens (items_of items)) ∙ array_end items)

numbers_tokens : (numbers : List ℕ)
    → items_tokens (map number_value numbers) ≡ flat_map (λ n. number (decimal n) ∷ []) numbers
unfolding items_tokens
numbers_tokens [] = refl
numbers_tokens (n ∷ later) =
    ap (λ (t : List Token). number (decimal n) ∷ t) (numbers_tokens later)

-- the tokens of a member whose value is an array of numbers
pub numbers_member_tokens : (name : List ℕ) (numbers : List ℕ)
    → members_tokens (numbers_member name numbers)
    ≡ key name ∷ begin_array ∷ (flat_map (λ n. number (decimal n) ∷ []) numbers ++ end_array ∷ [])
unfolding members_tokens numbers_member
numbers_member_tokens name numbers =
    ap (λ (t : List Token). key name ∷ begin_array ∷ t)
    (append-nil (tree.items_tokens (items_of (map number_value numbers)))
    ∙ array_end (map number_value numbers)
    ∙ ap (λ (t : List Token). t ++ end_array ∷ []) (numbers_tokens numbers))

-- Bytes that are valid UTF-8 are a text.
pub utf8_member : (name hex_name bytes : List ℕ) → IsUtf8 bytes
    → bytes_member name hex_name bytes ≡ text_member name bytes
unfolding bytes_member
utf8_member name hex_name bytes is = rw (is_utf8-from_IsUtf8 bytes is) refl

other_case : (test : Bool) (x y : List JsonMember) → (test ≡ true → ⊥) → cond test x y ≡ y
other_case test x y wrong = grind arith

-- Other bytes are hexadecimal digits.
pub other_member : (name hex_name bytes : List ℕ) → ¬ IsUtf8 bytes
    → bytes_member name hex_name bytes ≡ text_member hex_name (encode_lower bytes)
unfolding bytes_member
other_member name hex_name bytes wrong =
    other_case (is_utf8 bytes) _ _ (λ is. wrong (IsUtf8-from_is_utf8 bytes is))

-- the two cases of `bytes_member`
pub ruleset bytes_member_rules = (utf8_member, other_member)

-- the tokens of an object
pub object_tokens : (members : List JsonMember)
    → tree.json_tokens (object_of members)
    ≡ begin_object ∷ (members_tokens members ++ end_object ∷ [])
object_tokens members = ap (λ (t : List Token). begin_object ∷ t) (object_end members)

-- The tokens of members that are mapped from a list.
pub tokens_of_each : {X : Type 0} (f : X → List JsonMember) (xs : List X)
    → members_tokens (flat_map f xs) ≡ flat_map (λ x. members_tokens (f x)) xs
unfolding members_tokens
tokens_of_each f [] = refl
tokens_of_each f (x ∷ later) =
    tokens_append (f x) (flat_map f later)
    ∙ ap (λ (t : List Token). members_tokens (f x) ++ t) (tokens_of_each f later)

-- The tokens of items that are mapped from a list.
pub items_of_each : {X : Type 0} (f : X → List Json) (xs : List X)
    → items_tokens (flat_map f xs) ≡ flat_map (λ x. items_tokens (f x)) xs
unfolding items_tokens
items_of_each f [] = refl
items_of_each f (x ∷ later) =
    flat_map-append tree.json_tokens (f x) (flat_map f later)
    ∙ ap (λ (t : List Token). items_tokens (f x) ++ t) (items_of_each f later)

-- The tokens of items that are mapped one to one from a list.
pub items_of_map : {X : Type 0} (f : X → Json) (xs : List X)
    → items_tokens (map f xs) ≡ flat_map (λ x. tree.json_tokens (f x)) xs
unfolding items_tokens
items_of_map f [] = refl
items_of_map f (x ∷ later) =
    ap (λ (t : List Token). tree.json_tokens (f x) ++ t) (items_of_map f later)

-- Tokens that are appended twice are the concatenation.
joined : (old mid new x y : List Token) → mid ≡ old ++ x → new ≡ mid ++ y → new ≡ old ++ (x ++ y)
joined old mid new x y first second =
    second ∙ ap (λ (t : List Token). t ++ y) first ∙ append_assoc old x y

-- Members that are appended twice are the concatenation.
pub joined_members : (old mid new : List Token) (xs ys : List JsonMember)
    → mid ≡ old ++ members_tokens xs → new ≡ mid ++ members_tokens ys
    → new ≡ old ++ members_tokens (xs ++ ys)
joined_members old mid new xs ys first second =
    joined old mid new (members_tokens xs) (members_tokens ys) first second
    ∙ ap (λ (t : List Token). old ++ t) (sym (tokens_append xs ys))

-- The parts of an object.
pub joined_value : (old begun written new : List Token) (members : List JsonMember)
    → begun ≡ old ++ begin_object ∷ [] → written ≡ begun ++ members_tokens members
    → new ≡ written ++ end_object ∷ []
    → new ≡ old ++ tree.json_tokens (object_of members)
joined_value old begun written new members first second last =
    joined old begun new (begin_object ∷ []) (members_tokens members ++ end_object ∷ [])
    first (joined begun written new (members_tokens members) (end_object ∷ []) second last)
    ∙ ap (λ (t : List Token). old ++ t) (sym (object_tokens members))

-- The parts of a member whose value is an array.
pub joined_array : (old named begun written new : List Token) (name : List ℕ) (items : List Json)
    → named ≡ old ++ key name ∷ [] → begun ≡ named ++ begin_array ∷ []
    → written ≡ begun ++ items_tokens items → new ≡ written ++ end_array ∷ []
    → new ≡ old ++ members_tokens (array_member name items)
joined_array old named begun written new name items first second third last =
    joined old named new (key name ∷ []) (begin_array ∷ (items_tokens items ++ end_array ∷ []))
    first (joined named begun new (begin_array ∷ []) (items_tokens items ++ end_array ∷ []) second
    (joined begun written new (items_tokens items) (end_array ∷ []) third last))
    ∙ ap (λ (t : List Token). old ++ t) (sym (array_member_tokens name items))

-- The parts of a member whose value is an array of numbers.
pub joined_numbers : (old named begun written new : List Token) (name numbers : List ℕ)
    → named ≡ old ++ key name ∷ [] → begun ≡ named ++ begin_array ∷ []
    → written ≡ begun ++ flat_map (λ n. number (decimal n) ∷ []) numbers
    → new ≡ written ++ end_array ∷ []
    → new ≡ old ++ members_tokens (numbers_member name numbers)
joined_numbers old named begun written new name numbers first second third last =
    let items = flat_map (λ n. number (decimal n) ∷ []) numbers in
    joined old named new (key name ∷ []) (begin_array ∷ (items ++ end_array ∷ [])) first
    (joined named begun new (begin_array ∷ []) (items ++ end_array ∷ []) second
    (joined begun written new items (end_array ∷ []) third last))
    ∙ ap (λ (t : List Token). old ++ t) (sym (numbers_member_tokens name numbers))

-- the rules by which tokens of members are put together
pub ruleset json_rules = (
  append_assoc,
  tokens_append,
  object_member_tokens,
  array_member_tokens,
  numbers_member_tokens,
)

-- these rules and that of the tokens of an object
pub ruleset json_object_rules = (json_rules, object_tokens)
