-- The significant bits of the layouts `socket_id`, `inet_request` and `inet_response_header` are
-- the masks of the family and the timer byte.
use Rattle.std.proofs.Common.{◌≡◌, ◌⊎◌, inl, inr, ◌<◌, ℕ, Result, Ok, refl, ◌∙◌, arith}
use Rattle.netlink_core.specs.Layout.{tag_fields}
use Rattle.netlink_core.proofs.TableLaws.{significant_masks}
use Rattle.netlink_core.specs.declared.error.DecodeError.{DecodeError}
use Rattle.sock_diag_records.specs.SignificantBits.{IsInetFamily, HaveSameTimerClass}
use Rattle.sock_diag_records.specs.SignificantBits.{socket_id_masks, inet_request_masks}
use Rattle.sock_diag_records.specs.SignificantBits.{inet_response_header_masks}
use Rattle.sock_diag_records.specs.IpVersions.{ipv4, ipv6, IpVersions, versions_of_family}
use Rattle.sock_diag_records.specs.SocketId.{socket_id}
use Rattle.sock_diag_records.specs.InetRequest.{inet_request}
use Rattle.sock_diag_records.specs.InetResponse.{inet_response_header}
use Rattle.sock_diag_records.specs.laws.InetResponse.{for_each_timer_class, class_lt}
use Rattle.sock_diag_records.specs.laws.InetResponse.{versions_with_timer_class}
use Rattle.sock_diag_records.specs.Timer.{timer_class}

-- ---- families

-- only AF_INET and AF_INET6 have IP versions
inet_or_inet6 : (family : ℕ) (versions : IpVersions) → versions_of_family family ≡ Ok versions
    → ((family ≡ 2) × (versions ≡ (ipv4, ipv4))) ⊎ ((family ≡ 10) × (versions ≡ (ipv6, ipv6)))
inet_or_inet6 family versions e = grind arith

pub is_inet_family : (family : ℕ) (versions : IpVersions) → versions_of_family family ≡ Ok versions
    → IsInetFamily family
is_inet_family family versions e = grind (arith, inet_or_inet6 family versions e)

pub has_versions : (family : ℕ) → IsInetFamily family
    → (versions : IpVersions) × (versions_of_family family ≡ Ok versions)
has_versions family (inl e) = ((ipv4, ipv4), rw e)
has_versions family (inr e) = ((ipv6, ipv6), rw e)

pub masks_of_socket_id : (family : ℕ) (versions : IpVersions)
    → versions_of_family family ≡ Ok versions
    → significant_masks (tag_fields socket_id versions) ≡ socket_id_masks family
unfolding socket_id
masks_of_socket_id family versions e = elim (inet_or_inet6 family versions e) [
  | inl (f, v) ↦ rw (f, v)
  | inr (f, v) ↦ rw (f, v)
]

pub masks_of_request : (family : ℕ) (versions : IpVersions)
    → versions_of_family family ≡ Ok versions
    → significant_masks (tag_fields inet_request versions) ≡ inet_request_masks family
unfolding inet_request
masks_of_request family versions e = elim (inet_or_inet6 family versions e) [
  | inl (f, v) ↦ rw (f, v)
  | inr (f, v) ↦ rw (f, v)
]

-- ---- reply headers

-- Timer bytes have the same class if and only if they select the same rows of the layout.
pub same_timer : (x y : ℕ) → timer_class x ≡ timer_class y → HaveSameTimerClass x y
same_timer x y e = grind arith

pub same_class : (x y : ℕ) → HaveSameTimerClass x y → timer_class x ≡ timer_class y
same_class x y h = grind arith

abbrev ok_tag : IpVersions × ℕ → Result (IpVersions × ℕ) DecodeError
ok_tag tag = Ok tag

-- a header's tag is the IP versions of its family and the class of its timer
pub tag_parts : (class : ℕ) (versions : Result IpVersions DecodeError) (tag : IpVersions × ℕ)
    → versions_with_timer_class class versions ≡ ok_tag tag
    → (versions ≡ Ok tag.0) × (class ≡ tag.1)
tag_parts class versions tag e = grind arith

pub tag_of_parts : (class : ℕ) (versions : Result IpVersions DecodeError) (tag : IpVersions × ℕ)
    → versions ≡ Ok tag.0 → class ≡ tag.1 → versions_with_timer_class class versions ≡ ok_tag tag
tag_of_parts class versions tag e f = grind arith

-- the masks of a timer byte are the masks of its class
masks_of_class : (family timer : ℕ) → inet_response_header_masks family (timer_class timer)
    ≡ inet_response_header_masks family timer
masks_of_class family timer = grind arith

masks_ipv4 : (class : ℕ) → class < 5
    → significant_masks (tag_fields inet_response_header ((ipv4, ipv4), class))
    ≡ inet_response_header_masks 2 class
unfolding inet_response_header
masks_ipv4 = for_each_timer_class _ refl refl refl refl refl

masks_ipv6 : (class : ℕ) → class < 5
    → significant_masks (tag_fields inet_response_header ((ipv6, ipv6), class))
    ≡ inet_response_header_masks 10 class
unfolding inet_response_header
masks_ipv6 = for_each_timer_class _ refl refl refl refl refl

pub masks_of_header : (family timer : ℕ) (tag : IpVersions × ℕ)
    → versions_of_family family ≡ Ok tag.0 → timer_class timer ≡ tag.1
    → significant_masks (tag_fields inet_response_header tag)
    ≡ inet_response_header_masks family timer
masks_of_header family timer (versions, class) e f = elim (inet_or_inet6 family versions e) [
  | inl (is, v) ↦ rw (is, v, ← f) (masks_ipv4 (timer_class timer) (class_lt timer)
      ∙ masks_of_class 2 timer)
  | inr (is, v) ↦ rw (is, v, ← f) (masks_ipv6 (timer_class timer) (class_lt timer)
      ∙ masks_of_class 10 timer)
]
