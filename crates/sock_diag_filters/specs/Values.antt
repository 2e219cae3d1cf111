-- Values of the conditions in a filter's text.
use Rattle.std.specs.Prelude.{ℕ, ◌+◌, ◌-◌, ◌^◌, ◌==◌, ◌&&◌, ◌||◌, nat_eq, nat_lt, Bool}
use Rattle.std.specs.Prelude.{if◌then◌else◌, List, [], ◌∷◌, bytes_eq, codes, drop, length, take}
use Rattle.std.specs.Prelude.{Option, None, Some, option_and_then, option_map}
use Rattle.std.proofs.Common.{inl, inr}
use Rattle.std.proofs.lemmas.Bool.{cases_lt}
use Rattle.std.specs.List.{ends_with, starts_with}
use Rattle.std.specs.Option.{option_map_or}
use Rattle.std.specs.declared.net.ip_addr.IpAddr.{IpAddr}
use Rattle.sock_diag_filters.specs.AddressText.{ip_in}
use Rattle.sock_diag_filters.specs.Numbers.{index_of, number_in}
use Rattle.sock_diag_filters.specs.Prefixes.{bits_of}
use Rattle.sock_diag_filters.specs.declared.condition.Comparison.{Comparison}
use Rattle.sock_diag_filters.specs.declared.condition.Condition.{Condition}
use Rattle.sock_diag_filters.specs.declared.condition.Condition.TheVariants as conditions
use Rattle.sock_diag_filters.specs.declared.condition.Host.{Host}
use Rattle.sock_diag_filters.specs.declared.condition.Prefix.{Prefix}
use Rattle.sock_diag_filters.specs.declared.text.keywords.Field.{Field}
use Rattle.sock_diag_filters.specs.declared.text.keywords.Field.TheVariants as fields

-- `port_in text`: the port in the text, a number that a colon may precede.
abbrev pub port_in : List ℕ → Option ℕ
port_in text =
    number_in (2 ^ 16 - 1) (if starts_with nat_eq text (codes ":") then drop 1 text else text)

-- `mark_in text`: the condition on the mark in the text. `MARK/MASK` compares the bits of the mask,
-- and `MARK` all bits. A slash is 47.
abbrev pub mark_in : List ℕ → Option Condition
mark_in text =
    option_map_or
    (λ index. option_and_then
    (λ mark. option_map (λ mask. conditions.Mark mark mask)
    (number_in (2 ^ 32 - 1) (drop (index + 1) text)))
    (number_in (2 ^ 32 - 1) (take index text)))
    (index_of 47 text)
    (option_map (λ mark. conditions.Mark mark 0xffffffff) (number_in (2 ^ 32 - 1) text))

-- `is_any text`: the text matches any address or port: it is empty, or an asterisk.
abbrev pub is_any : List ℕ → Bool
is_any text = length text == 0 || bytes_eq text (codes "*")

-- `optional_port_in text`: the port in the text after an address: `Some None` matches any port.
abbrev pub optional_port_in : List ℕ → Option (Option ℕ)
optional_port_in text =
    if is_any text then Some None else option_map (λ port. Some port) (number_in (2 ^ 16 - 1) text)

-- `prefix_of address bits`: the prefix that consists of the first `bits` bits of the address, or
-- `None` if it has fewer.
abbrev pub prefix_of : IpAddr → ℕ → Option Prefix
prefix_of address bits = elim (cases_lt (bits_of address) bits) [
  | inl more ↦ None
  | inr within ↦ Some (record { address = address; bits = bits; in_range = within })
]

-- `prefix_in text`: the prefix in the text: `ADDRESS/BITS`, or `ADDRESS`, of which all bits are
-- compared.
abbrev pub prefix_in : List ℕ → Option Prefix
prefix_in text =
    option_map_or
    (λ index. option_and_then
    (λ address. option_and_then (prefix_of address) (number_in 255 (drop (index + 1) text)))
    (ip_in (take index text)))
    (index_of 47 text)
    (option_and_then (λ address. prefix_of address (bits_of address)) (ip_in text))

-- `without_brackets text`: the text between brackets, or the whole text if it is not in brackets.
abbrev pub without_brackets : List ℕ → List ℕ
without_brackets text =
    if nat_lt 1 (length text)
    && (starts_with nat_eq text (codes "[") && ends_with nat_eq text (codes "]"))
    then drop 1 (take (length text - 1) text) else text

-- `address_in text`: the prefix of an address in the text, in brackets or not: `Some None` matches
-- any address.
abbrev pub address_in : List ℕ → Option (Option Prefix)
address_in text =
    if is_any text then Some None
    else option_map (λ prefix. Some prefix) (prefix_in (without_brackets text))

-- `port_colon_from index found text`: the index of the last colon (58) of the text that no slash
-- (47) and no bracket (93) follows. The text begins at `index`, and `found` is this index in what
-- precedes it.
abbrev pub port_colon_from : (index : ℕ) → Option ℕ → List ℕ → Option ℕ
port_colon_from index found [] = found
port_colon_from index found (byte ∷ later) =
    port_colon_from (index + 1)
    (if byte == 58 then Some index else if byte == 47 || byte == 93 then None else found) later

-- `port_colon text`: the index of the colon before the port of a host: the last one, if no slash
-- and no bracket follows it.
abbrev pub port_colon : List ℕ → Option ℕ
port_colon text = port_colon_from 0 None text

-- A host with this prefix and this port.
abbrev pub host : Option Prefix → Option ℕ → Host
host prefix port = record { prefix = prefix; port = port }

-- `host_in text`: the host in the text: `ADDRESS:PORT`, or `ADDRESS`, of which each port matches.
abbrev pub host_in : List ℕ → Option Host
host_in text =
    option_map_or
    (λ index. option_and_then
    (λ prefix. option_map (host prefix) (optional_port_in (drop (index + 1) text)))
    (address_in (take index text)))
    (port_colon text) (option_map (λ prefix. host prefix None) (address_in text))

-- `condition_in field comparison text`: the condition that the field compares in this way with the
-- value in the text. `None` if the text is not a value of the field.
abbrev pub condition_in : Field → Comparison → List ℕ → Option Condition
condition_in fields.SourcePort comparison text =
    option_map (conditions.SourcePort comparison) (port_in text)
condition_in fields.DestinationPort comparison text =
    option_map (conditions.DestinationPort comparison) (port_in text)
condition_in fields.Source comparison text = option_map conditions.Source (host_in text)
condition_in fields.Destination comparison text =
    option_map conditions.Destination (host_in text)
condition_in fields.Interface comparison text =
    option_map conditions.Interface (number_in (2 ^ 32 - 1) text)
condition_in fields.Mark comparison text = mark_in text
condition_in fields.Cgroup comparison text =
    option_map conditions.Cgroup (number_in (2 ^ 64 - 1) text)
