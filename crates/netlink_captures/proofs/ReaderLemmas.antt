-- Lemmas about the state of a reader of captures.
use Rattle.std.proofs.Common.{◌≡◌, ◌⊎◌, inl, inr, ℕ, ◌<◌, ◌≤◌, List, [], ◌++◌, length, refl, arith}
use Rattle.std.proofs.Common.{false, length-append}
use Rattle.std.specs.Prelude.{Option}
use Rattle.netlink_captures.proofs.PcapngLemmas.{is_section_header-append, number_at_offset-append}
use Rattle.netlink_captures.specs.Capture.{IsFileHeaderError, IsInputStop, IsPacketStop}
use Rattle.netlink_captures.specs.Capture.{stopped_input}
use Rattle.netlink_captures.specs.Pcapng.{IsBlockStop, Position, is_section_header}
use Rattle.netlink_captures.specs.Reader.{CaptureState, HasMagic, IsCaptureEnd}
use Rattle.netlink_captures.specs.Reader.{IsCaptureStartStop, IsCaptureStop, IsEarlyReadStop}
use Rattle.netlink_captures.specs.Reader.{in_pcap, in_pcapng}
use Rattle.netlink_captures.specs.declared.captures.ByteOrder.TheVariants.{BigEndian, LittleEndian}
use Rattle.netlink_captures.specs.declared.captures.CaptureError.{CaptureError}
use Rattle.netlink_captures.specs.declared.captures.CaptureError.TheVariants as errors
use Rattle.netlink_captures.specs.declared.captures.FileHeader.{FileHeader}
use Rattle.program_streams.specs.declared.streams.ReadError.{ReadError}

-- A capture may end at once after any state.
pub nothing_more : (s : CaptureState) → IsCaptureEnd s []
nothing_more (in_pcap file) = refl
nothing_more (in_pcapng p) = (p, ([], refl, refl))

-- A read may fail at once after any state.
pub stopped_at_once : (s : CaptureState) (left : Option (List ℕ)) (failed : ReadError → Type 0)
    (error : ReadError) → failed error
    → IsCaptureStop s (stopped_input left failed []) (errors.Read error)
stopped_at_once (in_pcap file) left failed error h = (inl (omega arith), h)
stopped_at_once (in_pcapng p) left failed error h = record {
  blocks = [];
  position' = p;
  part = [];
  skipped = refl;
  parts = refl;
  stopped = inl (inl (inl (omega arith), λ is. absurd (cc), h));
}

-- a cause of a failed read, and one that follows from it
module _ (left : Option (List ℕ)) (A B : ReadError → Type 0)
    (implies : (error : ReadError) → A error → B error) where
  packet_stop_implies : (file : FileHeader) (part : List ℕ) (e : CaptureError)
      → IsPacketStop file (stopped_input left A part) e
      → IsPacketStop file (stopped_input left B part) e
  packet_stop_implies file part (errors.Read error) h = (h.0, implies error h.1)
  packet_stop_implies file part _ h = h

  input_stop_implies : (part : List ℕ) (e : CaptureError)
      → IsInputStop (stopped_input left A part) e → IsInputStop (stopped_input left B part) e
  input_stop_implies part (errors.Read error) h = implies error h
  input_stop_implies part _ h = h

  block_stop_implies : (p : Position) (part : List ℕ) (e : CaptureError)
      → IsBlockStop p (stopped_input left A part) e → IsBlockStop p (stopped_input left B part) e
  block_stop_implies p part e h = elim h [
    | inl (inl (within, some, s)) ↦ inl (inl (within, some, input_stop_implies part e s))
    | inl (inr s) ↦ inl (inr s)
    | inr s ↦ inr s
  ]

  -- A reason to stop for the first cause is one for the second.
  pub stop_implies : (s : CaptureState) (part : List ℕ) (e : CaptureError)
      → IsCaptureStop s (stopped_input left A part) e
      → IsCaptureStop s (stopped_input left B part) e
  stop_implies (in_pcap file) part e h = packet_stop_implies file part e h
  stop_implies (in_pcapng p) part e h = record {
    blocks = h.blocks;
    position' = h.position';
    part = h.part;
    skipped = h.skipped;
    parts = h.parts;
    stopped = block_stop_implies h.position' h.part e h.stopped;
  }

-- Bytes after the first four do not change the magic number.
magic-append : (a b : List ℕ) → 4 ≤ length a → HasMagic a → HasMagic (a ++ b)
magic-append a b long found =
    rw (
      number_at_offset-append BigEndian 4 0 a b long,
      number_at_offset-append LittleEndian 4 0 a b long,
    ) found

-- A stop within the header of a capture, after its magic number, is one of its reasons to stop.
pub early_stop : (left : Option (List ℕ)) (failed : ReadError → Type 0) (head part : List ℕ)
    (e : CaptureError)
    → 4 ≤ length head → HasMagic head → IsInputStop (stopped_input left failed part) e
    → IsEarlyReadStop (stopped_input left failed (head ++ part)) e
early_stop left failed head part errors.Truncated long found stop = (
  omega (arith, length-append head part, long),
  magic-append head part long found,
  stop,
)
early_stop left failed head part (errors.Read error) long found stop = stop
early_stop left failed head part _ long found stop = absurd stop

-- A stop within the file header of a pcap file, after its first 12 bytes, or an invalid one, is a
-- reason why the capture could not be opened.
pub pcap_stop : (left : Option (List ℕ)) (failed : ReadError → Type 0) (head part : List ℕ)
    (e : CaptureError)
    → length head ≡ 12 → HasMagic head → is_section_header head ≡ false
    → ((length part < 12) × IsInputStop (stopped_input left failed part) e)
    ⊎ ((length part ≡ 12) × IsFileHeaderError (head ++ part) e)
    → IsCaptureStartStop (stopped_input left failed (head ++ part)) e
pcap_stop left failed head part e long found other stop =
    let same = is_section_header-append head part (omega arith) in
    let joined = length-append head part in
    elim stop [
      | inl s ↦ inl (
        omega (arith, joined, s.0),
        early_stop left failed head part e (omega (arith, long)) found s.1,
      )
      | inr s ↦ inr (inl (omega (arith, joined, s.0), λ is. absurd (cc (same, other, is)), s.1))
    ]
