-- The address that a text is.
use Rattle.std.specs.Prelude.{ℕ, List, Option, option_map}
use Rattle.std.specs.Option.{option_or}
use Rattle.std.specs.Net.Reader.{read_ipv4, read_ipv6, whole_value}
use Rattle.std.specs.declared.net.ip_addr.IpAddr.{IpAddr}
use Rattle.std.specs.declared.net.ip_addr.IpAddr.TheVariants.{V4, V6}

-- `ip_in text`: the address that the text is, as std::net parses it: four decimal numbers, or a
-- form of RFC 4291, section 2.2. `None` if the text is not an address. `read_ipv4` and `read_ipv6`
-- read an address at the start of a text, and `whole_value` is this address if no text is left
-- after it. The clause `spelled` of the function `ip_in` (src/text/values.rt) states the same by
-- the grammar of std, `IsIpText`.
unfoldable pub ip_in : List ℕ → Option IpAddr
ip_in text =
    option_or (option_map (λ octets. V4 record { octets = octets }) (whole_value (read_ipv4 text)))
    (option_map (λ segments. V6 record { segments = segments }) (whole_value (read_ipv6 text)))
