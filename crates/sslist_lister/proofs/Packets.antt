-- Lemmas about the lines and diagnostics of a packet.
use Rattle.std.proofs.Common.{◌≡◌, ℕ, ◌≤◌, ◌<◌, List, ◌++◌, length, refl, sym, ◌∙◌, arith, inr}
use Rattle.std.proofs.lemmas.Bool.{le-leb, le-ltb, leb-true, lt-ltb}
use Rattle.std.proofs.lemmas.List.{append-nil}
use Rattle.std.specs.Prelude.{◌↔◌, ◌&&◌, Bool, true, false, IsTrue, nat_le}
use Rattle.netlink_captures.specs.Capture.{CapturedPacket}
use Rattle.netlink_captures.specs.Cooked.{IsOfSockDiag}
use Rattle.sslist_command_line.specs.declared.options.Options.{Options}
use Rattle.sslist_lister.specs.Diagnostics.{DiagnosesContent, short_line_if_whole}
use Rattle.sslist_lister.specs.Listing.{ListsPacket, ListsCapturedPacket}
use Rattle.sslist_lister.specs.Requests.{PastRequests}
use Rattle.sslist_lister.proofs.Progress.{not_both}

-- A packet was listed completely if its bytes were, and it was not truncated.
pub listed_without_errors : (o : Options) (past : PastRequests) (packet : CapturedPacket)
    (before after : List ℕ)
    (listed whole : Bool) → (IsTrue whole ↔ (packet.header.whole_length ≤ length packet.bytes))
    → ListsPacket o past packet before after listed
    → ListsCapturedPacket o past packet before after (listed && whole)
listed_without_errors o past packet before after true whole same lists =
    (true, lists, (λ is. (refl, same.0 is), λ both. same.1 both.1))
listed_without_errors o past packet before after false whole same lists =
    (false, lists, (λ is. absurd (not_both false refl is), λ both. both.0))

by_comparison : (whole complete : Bool) (m n : ℕ) → nat_le m n ≡ complete
    → (IsTrue whole ↔ (m ≤ n)) → whole ≡ complete
by_comparison whole true m n compared same = same.1 (leb-true m n compared)
by_comparison true false m n compared same =
    absurd (let above = le-leb m n (same.0 refl) in cc)
by_comparison false false m n compared same = refl

-- A packet is complete if and only if it was not truncated.
pub complete_if_not_truncated : (whole : Bool) (m n : ℕ) → (IsTrue whole ↔ (m ≤ n))
    → whole ≡ nat_le m n
complete_if_not_truncated whole m n same = by_comparison whole (nat_le m n) m n refl same

-- A packet of another protocol has no diagnostics.
pub diagnosed_other : (front : List ℕ) (packet : ℕ) (whole : Bool) (bytes before : List ℕ)
    → 16 ≤ length bytes
    → ¬ IsOfSockDiag bytes → DiagnosesContent front packet whole bytes before before
diagnosed_other front packet whole bytes before long wrong =
    inr (λ is. wrong is.1, sym (rw (le-ltb (length bytes) 16 long) (append-nil before)))

-- A packet that is too short has one line, unless it was truncated.
pub diagnosed_short : (front : List ℕ) (packet : ℕ) (whole : Bool) (bytes before after : List ℕ)
    → length bytes < 16 → after ≡ before ++ short_line_if_whole front packet whole
    → DiagnosesContent front packet whole bytes before after
diagnosed_short front packet whole bytes before after short added =
    inr (
      λ is. absurd (omega (arith, is.0, short)),
      added ∙ sym (rw (lt-ltb (length bytes) 16 short) refl),
    )
