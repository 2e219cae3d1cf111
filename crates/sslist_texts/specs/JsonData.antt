-- JSON values, and the texts of lines of JSON. A JSON value (`Json`) is one of RFC 8259. Its text
-- (`print`, `json_tokens`) has no spaces between tokens.
use Rattle.std.specs.Prelude.{ℕ, List, [], ◌∷◌, map, decimal, false, codes, Option, None}
use Rattle.std.specs.Prelude.{Some, if◌then◌else◌, Bool}
use Rattle.std.specs.Fmt.{digits}
use Rattle.std.specs.Str.{is_utf8}
use Rattle.std.specs.declared.net.ip_addr.IpAddr.{IpAddr}
use Rattle.std.specs.Net.Text.{ip_text}
use Rattle.byteorder.specs.Endian.{little_number}
use Rattle.hex.specs.Hex.{encode_lower}
use Rattle.json.specs.Json as json
use Rattle.json.specs.Print.{print}
use Rattle.json.specs.Tree.{json_tokens}

-- ---- objects and arrays

-- a member of an object: its name (`.0`) and its value (`.1`)
abbrev pub JsonMember : Type 0
JsonMember = List ℕ × json.Json

-- members, in order, as `Rattle.json` has them
abbrev pub members_of : List JsonMember → json.Members
members_of [] = json.no_members
members_of (first ∷ later) = json.member first.0 first.1 (members_of later)

-- the object with these members, in order
abbrev pub object_of : List JsonMember → json.Json
object_of members = json.object (members_of members)

-- items, in order, as `Rattle.json` has them
abbrev pub items_of : List json.Json → json.Items
items_of [] = json.no_items
items_of (value ∷ later) = json.item value (items_of later)

-- the array with these items, in order
abbrev pub array_of : List json.Json → json.Json
array_of items = json.array (items_of items)

-- a number, in decimal
abbrev pub number_value : ℕ → json.Json
number_value n = json.number (decimal n)

-- ---- members: each definition is a list of them, so that these lists can be concatenated

-- `text_member name text`: the member of this name whose value is a string
unfoldable pub text_member : List ℕ → List ℕ → List JsonMember
text_member name text = (name, json.string text) ∷ []

-- members whose values are numbers: for each row its name (`.0`) and its number (`.1`)
unfoldable pub number_members : List (List ℕ × ℕ) → List JsonMember
number_members rows = map (λ row. (row.0, number_value row.1)) rows

-- `optional_member name number`: the member of this name whose value is the number, or no member
-- for None
unfoldable pub optional_member : List ℕ → Option ℕ → List JsonMember
optional_member name None = []
optional_member name (Some n) = (name, number_value n) ∷ []

-- `flag_member name flag`: the member of this name whose value is `true` or `false`
unfoldable pub flag_member : List ℕ → Bool → List JsonMember
flag_member name flag = (name, json.boolean flag) ∷ []

-- `numbers_member name numbers`: the member of this name whose value is an array of the numbers
unfoldable pub numbers_member : List ℕ → List ℕ → List JsonMember
numbers_member name numbers = (name, array_of (map number_value numbers)) ∷ []

-- `array_member name items`: the member of this name whose value is the array of the items
unfoldable pub array_member : List ℕ → List json.Json → List JsonMember
array_member name items = (name, array_of items) ∷ []

-- `object_member name members`: the member of this name whose value is the object with these
-- members
unfoldable pub object_member : List ℕ → List JsonMember → List JsonMember
object_member name members = (name, object_of members) ∷ []

-- `hex_member name n`: the member of this name whose value is a string: the number `n` in lowercase
-- hexadecimal digits, without leading zeros (`digits 16 false`: base 16, not in uppercase)
abbrev pub hex_member : List ℕ → ℕ → List JsonMember
hex_member name n = text_member name (digits 16 false n)

-- the member `cookie`: eight bytes as a little-endian number in hexadecimal digits, like `sk:` of
-- ss(8)
abbrev pub cookie_member : List ℕ → List JsonMember
cookie_member cookie = hex_member (codes "cookie") (little_number 8 cookie)

-- `address_member name address`: the member of this name whose value is the text of the IP address
abbrev pub address_member : List ℕ → IpAddr → List JsonMember
address_member name address = text_member name (ip_text address)

-- `digits_member name bytes`: the member of this name whose value is a string: two lowercase
-- hexadecimal digits for each byte
abbrev pub digits_member : List ℕ → List ℕ → List JsonMember
digits_member name bytes = text_member name (encode_lower bytes)

-- `bytes_member name hex_name bytes`: bytes that the owner of a socket chose: under `name` if they
-- are valid UTF-8, or else their digits under `hex_name`
unfoldable pub bytes_member : List ℕ → List ℕ → List ℕ → List JsonMember
bytes_member name hex_name bytes =
    if is_utf8 bytes then text_member name bytes else digits_member hex_name bytes

-- ---- texts

-- the text of a value, without spaces between tokens
abbrev pub json_text : json.Json → List ℕ
json_text value = print (json_tokens value)
