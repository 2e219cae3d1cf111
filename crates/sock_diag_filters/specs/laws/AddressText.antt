-- The address that a text is, by the grammar of std.
use Rattle.std.proofs.Common.{◌≡◌, ◌↔◌, ℕ, List, [], ◌∷◌, Option, Some, None, Result, Ok, Err, ap}
use Rattle.std.proofs.Common.{sym, ◌∙◌, subst, append-nil, refl, lit≤, option_map, arith}
use Rattle.std.proofs.NetLemmas.Ipv4.{read_ipv4_complete, read_ipv4_sound}
use Rattle.std.proofs.NetLemmas.Ipv6.{EndsGroups-nil, IsDotted-not_colon_hex}
use Rattle.std.proofs.NetLemmas.Ipv6.{read_ipv6_complete, read_ipv6_sound}
use Rattle.std.specs.Prelude.{unwrap_or}
use Rattle.std.specs.Option.{option_or}
use Rattle.std.specs.Net.Grammar.{IsColonHex, IsDotted, IsIpText, Parses}
use Rattle.std.specs.Net.Reader.{Read, read_ipv4, read_ipv6, whole_value}
use Rattle.std.specs.Result.{result_ok}
use Rattle.std.specs.declared.net.ip_addr.IpAddr.{IpAddr}
use Rattle.std.specs.declared.net.ip_addr.IpAddr.TheVariants.{V4, V6}
use Rattle.sock_diag_filters.specs.AddressText.{ip_in}

-- an IPv4 address with these octets
abbrev ipv4 : List ℕ → IpAddr
ipv4 octets = V4 record { octets = octets }

-- an IPv6 address with these segments
abbrev ipv6 : List ℕ → IpAddr
ipv6 segments = V6 record { segments = segments }

none_if_no_value : {A : Type 0} (o : Option A) → ((x : A) → ¬ (o ≡ Some x)) → o ≡ None
none_if_no_value None h = refl
none_if_no_value (Some x) h = absurd (h x refl)

read_to_the_end : {B : Type 0} (read : Read B) (value : B) → whole_value read ≡ Some value
    → read ≡ Some (value, [])
read_to_the_end None value h = absurd (cc)
read_to_the_end (Some (x, [])) value h = ap (option_map (λ v. (v, []))) h
read_to_the_end (Some (x, c ∷ rest)) value h = absurd (grind arith)

ipv4_sound : (text octets : List ℕ) → whole_value (read_ipv4 text) ≡ Some octets
    → IsDotted text octets
ipv4_sound text octets h =
    let (front, split, spelled) = read_ipv4_sound text octets [] (read_to_the_end _ _ h) in
    subst (λ t. IsDotted t octets) (sym (split ∙ append-nil front)) spelled

ipv4_complete : (text octets : List ℕ) → IsDotted text octets
    → whole_value (read_ipv4 text) ≡ Some octets
ipv4_complete text octets h =
    ap whole_value (rw append-nil at (read_ipv4_complete text octets [] h (lit≤ tt)))

ipv6_sound : (text segments : List ℕ) → whole_value (read_ipv6 text) ≡ Some segments
    → IsColonHex text segments
ipv6_sound text segments h =
    let (front, split, spelled) = read_ipv6_sound text segments [] (read_to_the_end _ _ h) in
    subst (λ t. IsColonHex t segments) (sym (split ∙ append-nil front)) spelled

ipv6_complete : (text segments : List ℕ) → IsColonHex text segments
    → whole_value (read_ipv6 text) ≡ Some segments
ipv6_complete text segments h =
    ap whole_value (rw append-nil at (read_ipv6_complete text segments [] h EndsGroups-nil))

from_either : (text : List ℕ) (a : IpAddr) (o p : Option (List ℕ))
    → ((octets : List ℕ) → o ≡ Some octets → IsDotted text octets)
    → ((segments : List ℕ) → p ≡ Some segments → IsColonHex text segments)
    → option_or (option_map ipv4 o) (option_map ipv6 p) ≡ Some a → IsIpText text a
from_either text a (Some octets) p dotted hex h =
    subst (IsIpText text) (ap (λ o. unwrap_or o a) h) (dotted octets refl)
from_either text a None (Some segments) dotted hex h =
    subst (IsIpText text) (ap (λ o. unwrap_or o a) h) (hex segments refl)
from_either text a None None dotted hex h = absurd (cc)

ip_in_sound : (text : List ℕ) (a : IpAddr) → ip_in text ≡ Some a → IsIpText text a
unfolding ip_in
ip_in_sound text a h = from_either text a _ _ (ipv4_sound text) (ipv6_sound text) h

ip_in_complete : (text : List ℕ) (a : IpAddr) → IsIpText text a → ip_in text ≡ Some a
unfolding ip_in
ip_in_complete text (V4 ip) h = rw (ipv4_complete text _ h) refl
ip_in_complete text (V6 ip) h =
    rw (
      none_if_no_value _ (λ octets read.
          IsDotted-not_colon_hex text octets _ (ipv4_sound text octets read) h),
      ipv6_complete text _ h,
    )
    refl

-- A text is an address if and only if the grammar of std has it as a text of this address.
pub ip_in_is_ip_text : (text : List ℕ) (a : IpAddr) → (ip_in text ≡ Some a) ↔ IsIpText text a
ip_in_is_ip_text text a = (ip_in_sound text a, ip_in_complete text a)

-- What parses by this grammar returns the address.
pub parsed_is_ip_in : {E : Type 0} (text : List ℕ) (r : Result IpAddr E)
    → Parses IsIpText text r → result_ok r ≡ ip_in text
parsed_is_ip_in text (Ok a) h = sym (ip_in_complete text a h)
parsed_is_ip_in text (Err e) h =
    sym (none_if_no_value _ (λ a read. h a (ip_in_sound text a read)))

-- what a parsed address is
pub ruleset ip_text_rules = (parsed_is_ip_in, ip_in_is_ip_text)
