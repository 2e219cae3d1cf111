-- Lemmas about the states of the input when reading stops.
use Rattle.std.proofs.Common.{◌≡◌, ◌⊎◌, inl, inr, ℕ, ◌<◌, ◌≤◌, List, [], ◌++◌, length, sym, ap}
use Rattle.std.proofs.Common.{subst, ◌∙◌, append-nil, arith}
use Rattle.std.specs.Prelude.{Option}
use Rattle.std.specs.Io.KnownBytes.{Consumes}
use Rattle.std.proofs.KnownBytes.{Consumes-trans}
use Rattle.program_streams.specs.declared.streams.ReadError.{ReadError}
use Rattle.netlink_captures.specs.Capture.{IsInputStop, IsPacketStop, captured_length}
use Rattle.netlink_captures.specs.Capture.{stopped_input}
use Rattle.netlink_captures.specs.declared.captures.CaptureError.{CaptureError}
use Rattle.netlink_captures.specs.declared.captures.CaptureError.TheVariants.{Memory}
use Rattle.netlink_captures.specs.declared.captures.FileHeader.{FileHeader}

stop_within_packet : (file : FileHeader) (left : Option (List ℕ)) (failed : ReadError → Type 0)
    (header part : List ℕ) (e : CaptureError)
    → length header ≡ 16 → length part < captured_length file header
    → IsInputStop (stopped_input left failed part) e
    → IsPacketStop file (stopped_input left failed (header ++ part)) e
stop_within_packet file left failed header part e long short stop = grind arith

-- A stop after a packet header, while its packet is read, is a reason why no packet was read.
pub packet_stops : (file : FileHeader) (a b c : Option (List ℕ)) (failed : ReadError → Type 0)
    (header : List ℕ) (e : CaptureError)
    → length header ≡ 16 → captured_length file header ≤ 262144 → Consumes a b header
    → ((part : List ℕ) × Consumes b c part
    × (((e ≡ Memory) × (part ≡ [])) ⊎ ((length part < captured_length file header)
    × IsInputStop (stopped_input c failed part) e)))
    → (part : List ℕ) × Consumes a c part × IsPacketStop file (stopped_input c failed part) e
packet_stops file a b c failed header e long most first (part, read, stop) = elim stop [
  | inl m ↦
      let whole : Consumes a c header = subst (Consumes a c) (ap (λ (p : List ℕ). header ++ p) m.1
      ∙ append-nil header) (Consumes-trans a b c header part first read) in (
        header,
        whole,
        subst (IsPacketStop file (stopped_input c failed header)) (sym m.0) (long, most),
      )
  | inr s ↦ (
    header ++ part,
    Consumes-trans a b c header part first read,
    stop_within_packet file c failed header part e long s.0 s.1,
  )
]
