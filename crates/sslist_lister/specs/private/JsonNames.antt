-- Names of UNIX sockets in lines of JSON.
use Rattle.std.specs.Prelude.{◌≡◌, ℕ, List}
use Rattle.sock_diag_attributes.specs.declared.unix.name.SocketName.{SocketName}
use Rattle.sock_diag_attributes.specs.declared.unix.name.SocketName.TheVariants.{Abstract, Pathname}
use Rattle.sslist_texts.specs.JsonData.{JsonMember, json_text, object_of}

-- `HaveSameText members others`: the JSON objects with these members have the same text
abbrev pub HaveSameText : List JsonMember → List JsonMember → Type 0
HaveSameText members others = json_text (object_of members) ≡ json_text (object_of others)

-- the bytes of a name
abbrev pub bytes_of_name : SocketName (List ℕ) → List ℕ
bytes_of_name (Pathname path) = path
bytes_of_name (Abstract name) = name
