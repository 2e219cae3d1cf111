-- Lemmas about the requests after a packet.
use Rattle.std.proofs.Common.{◌≡◌, ℕ, ◌<◌, ◌≤◌, ◌&&◌, ◌==◌, List, Bool, true, false, cond, length}
use Rattle.std.proofs.Common.{drop, refl, sym, ap, ◌∙◌}
use Rattle.std.proofs.lemmas.Bool.{eq-eqb, eqb-true, le-ltb, lt-ltb}
use Rattle.byteorder.specs.Endian.{big_number}
use Rattle.netlink_captures.specs.Cooked.{IsOfSockDiag}
use Rattle.sslist_lister.specs.Listing.{requests_after_datagram, requests_after_packet}
use Rattle.sslist_lister.specs.Requests.{PastRequests}

-- A condition that does not hold selects the second value.
second_requests_are_selected : (p q : Bool) (xs ys : PastRequests) → ((p ≡ true) × (q ≡ true) → ⊥)
    → cond (p && q) xs ys ≡ ys
second_requests_are_selected true true xs ys wrong = absurd (wrong (refl, refl))
second_requests_are_selected true false xs ys wrong = refl
second_requests_are_selected false q xs ys wrong = refl

-- A datagram of sock_diag(7) may add a request.
pub request_of_datagram : (past : PastRequests) (packet datagram : List ℕ) → 16 ≤ length packet
    → IsOfSockDiag packet → datagram ≡ drop 16 packet
    → requests_after_datagram past datagram ≡ requests_after_packet past packet
unfolding requests_after_packet
request_of_datagram past packet datagram long (kind, protocol) same =
    ap (requests_after_datagram past) same
    ∙ sym (rw (
      le-ltb (length packet) 16 long,
      eq-eqb (big_number 2 (drop 2 packet)) 824 kind,
      eq-eqb (big_number 2 (drop 14 packet)) 4 protocol,
    ) refl)

-- A packet of another protocol adds no request.
pub other_packet_adds_no_request : (past : PastRequests) (packet : List ℕ) → 16 ≤ length packet
    → ¬ IsOfSockDiag packet → past ≡ requests_after_packet past packet
unfolding requests_after_packet
other_packet_adds_no_request past packet long wrong =
    sym (rw (le-ltb (length packet) 16 long)
    (second_requests_are_selected (big_number 2 (drop 2 packet) == 824)
    (big_number 2 (drop 14 packet) == 4) _ _
    (λ both. wrong (eqb-true _ _ both.0, eqb-true _ _ both.1))))

-- A packet that is too short adds no request.
pub short_packet_adds_no_request : (past : PastRequests) (packet : List ℕ) → length packet < 16
    → past ≡ requests_after_packet past packet
unfolding requests_after_packet
short_packet_adds_no_request past packet short = sym (rw (lt-ltb (length packet) 16 short) refl)

pub ruleset requests_rules = (
  request_of_datagram,
  other_packet_adds_no_request,
  short_packet_adds_no_request,
)
