-- Listing of a whole capture.
use Rattle.std.specs.Prelude.{◌≡◌, ◌↔◌, ℕ, ◌+◌, ◌-◌, ◌^◌, ◌⊎◌, List, [], ◌∷◌, ◌++◌, length}
use Rattle.std.specs.Prelude.{flat_map, Bool, Err, IsTrue, MatchResult, Ok, Option, Result, ⊤}
use Rattle.std.specs.Io.KnownBytes.{Appends, Consumes, IsAtEnd, Keeps}
use Rattle.std.specs.List.{AllByRecursion}
use Rattle.program_streams.specs.declared.streams.ReadError.{ReadError}
use Rattle.program_streams.specs.declared.streams.ReadError.TheVariants.{Other}
use Rattle.sslist_texts.specs.declared.list_error.ListError.{ListError}
use Rattle.sslist_texts.specs.declared.list_error.ListError.TheVariants.{Header, Packet}
use Rattle.sslist_texts.specs.declared.list_error.ListError.TheVariants.{Write}
use Rattle.sslist_texts.specs.declared.list_error.ListError.TheVariants.{Memory}
use Rattle.netlink_captures.specs.Capture.{CapturedPacket, stopped_input}
use Rattle.netlink_captures.specs.Reader.{CaptureState, IsCaptureEnd, IsCaptureStart}
use Rattle.netlink_captures.specs.Reader.{IsCaptureStartStop, IsCaptureStop, ReadsPacket}
use Rattle.sslist_command_line.specs.declared.options.Options.{Options}
use Rattle.sslist_lister.specs.Diagnostics.{AreDiagnosed}
use Rattle.sslist_lister.specs.Listing.{ListsCapturedPacket, requests_after_packet}
use Rattle.sslist_lister.specs.Requests.{PastRequests, no_requests}
use Rattle.sslist_texts.specs.Reports.{closing_line}

-- the lines of a packet, and whether it was listed completely
pub record ListedPacket : Type 0 where
  -- the lines of the packet in the table
  pub lines : List ℕ
  -- the packet was listed completely
  pub whole : Bool

-- `AreListed o past packets listings`: one listing for each of these consecutive packets, in
-- order. `past` are the requests before the first of them. No text precedes the lines (`[]`).
abbrev pub AreListed : Options → PastRequests → List CapturedPacket → List ListedPacket → Type 0
AreListed o past [] [] = ⊤
AreListed o past (packet ∷ packets) (listing ∷ later) =
    ListsCapturedPacket o past packet [] listing.lines listing.whole
    × AreListed o (requests_after_packet past packet.bytes) packets later
AreListed o past _ _ = ⊥

-- `ArePackets s bytes packets s'`: the bytes lead from the state `s` of a reader to `s'`, over
-- these packets, one after another (`ReadsPacket`)
abbrev pub ArePackets : CaptureState → List ℕ → List CapturedPacket → CaptureState → Type 0
ArePackets s bytes [] s' = (bytes ≡ []) × (s' ≡ s)
ArePackets s bytes (packet ∷ later) s' =
    (first rest : List ℕ) × (mid : CaptureState) × ReadsPacket s first packet mid
    × (bytes ≡ first ++ rest) × ArePackets mid rest later s'

-- `IsTableOfCapture o front bytes lines diagnostics is_whole`: `lines` and `diagnostics` are those
-- of the packets of a capture, in order. `bytes` are the bytes of the capture: the first ones open
-- it (`header`), and packets follow (`records`). Each diagnostic begins with `front`. Packets are
-- numbered from 1 on. `is_whole` is true if and only if each packet was listed completely.
pub record IsTableOfCapture (o : Options) (front bytes lines diagnostics : List ℕ) (is_whole : Bool)
    : Type 0 where
  -- the bytes that open the capture
  pub header : List ℕ
  -- the state of the reader after them
  pub start : CaptureState
  -- the bytes of all packets with their packet headers or blocks
  pub records : List ℕ
  -- the state of the reader after them
  pub state : CaptureState
  -- the packets in `records`
  pub packets : List CapturedPacket
  -- the lines of each packet, and whether it was listed completely
  pub listings : List ListedPacket
  pub parts : bytes ≡ header ++ records
  pub is_header : IsCaptureStart header start
  pub are_packets : ArePackets start records packets state
  -- no request precedes the first packet
  pub listed : AreListed o no_requests packets listings
  pub written : lines ≡ flat_map (λ listing. listing.lines) listings
  -- the first packet has the number 1
  pub diagnosed : AreDiagnosed front 1 packets diagnostics
  pub whole : IsTrue is_whole ↔ AllByRecursion (λ listing. IsTrue listing.whole) listings

-- The parameters describe a run: its options `o`; the bytes that are left to read (`left` before
-- the run, `left'` after it) and the bytes written (`held` and `held'`), each if known; the heading
-- of the table; the prefix `front` of each diagnostic; and `Reported`, which states that a text was
-- reported on standard error.
module _ (o : Options) (left left' held held' : Option (List ℕ)) (heading front : List ℕ)
    (Reported : List ℕ → Type 0) where
  -- The state after a number of packets: the capture was opened and these packets were read, which
  -- led to the state `state` of the reader, and then the bytes `more` were read. The heading and
  -- the lines of these packets were written, and their diagnostics reported.
  pub record RunState (state : CaptureState) (packets : ℕ) (more : List ℕ) : Type 0 where
    -- the bytes that open the capture, and those of the packets
    pub bytes : List ℕ
    -- the lines of the packets
    pub lines : List ℕ
    -- the diagnostics of the packets
    pub diagnostics : List ℕ
    -- true if and only if each of these packets was listed completely
    pub is_whole : Bool
    pub table : IsTableOfCapture o front bytes lines diagnostics is_whole
    -- the reader is in the state `state` after these packets
    pub reached : table.state ≡ state
    -- the number of packets is `packets`
    pub counted : length table.packets ≡ packets
    -- these bytes, and then `more`, were read
    pub read : Consumes left left' (bytes ++ more)
    -- the heading and the lines were written
    pub appended : Appends held held' (heading ++ lines)
    pub reported : Reported diagnostics

  -- The state after a failed write or flush: packets were read and diagnosed, and a prefix of the
  -- heading and of their lines was written: `sent`, without `rest`. The last of them is the packet
  -- whose lines could not be written, if it was not the heading or the flush that failed. `more`
  -- are the bytes that were read after them, which contain no packet: none, or before the flush
  -- those at the end of a pcapng file.
  abbrev pub FailsAtWrite : Type 0
  FailsAtWrite =
      (bytes lines diagnostics : List ℕ) × (is_whole : Bool)
      × (table : IsTableOfCapture o front bytes lines diagnostics is_whole)
      × (more : List ℕ) × IsCaptureEnd table.state more
      × Consumes left left' (bytes ++ more) × (sent : List ℕ) × (rest : List ℕ)
      × (heading ++ lines ≡ sent ++ rest) × Appends held held' sent × Reported diagnostics

  -- `Fails unread error`: the state of a run that failed with this error. `unread cause` states
  -- that a read failed with the error `cause`. `part` are the bytes that were read of what could
  -- not be opened or read.
  -- * Header: the capture could not be opened, nothing was written and nothing reported.
  -- * Packet: the packet of this number could not be read. The packets before it were listed. The
  --   number 2 ^ 64 - 1 is never read: the run fails there as if a read had failed, with Other.
  -- * Memory: an allocation failed while a packet was listed, which had been read. The packets
  --   before it were listed.
  -- * Write: a write or the last flush failed.
  abbrev pub Fails : (ReadError → Type 0) → ListError → Type 0
  Fails unread (Header error) =
      (part : List ℕ) × Consumes left left' part
      × IsCaptureStartStop (stopped_input left' unread part) error × Keeps held held' × Reported []
  Fails unread (Packet number error) =
      (state : CaptureState) × (packets : ℕ) × (part : List ℕ) × RunState state packets part
      × (number ≡ packets + 1)
      × IsCaptureStop state (stopped_input left'
      (λ cause. unread cause ⊎ ((number ≡ 2 ^ 64 - 1) × (cause ≡ Other))) part) error
  Fails unread Memory =
      (state after : CaptureState) × (packets : ℕ) × (bytes : List ℕ) × (packet : CapturedPacket)
      × ReadsPacket state bytes packet after × RunState state packets bytes
  Fails unread (Write error) = FailsAtWrite

  -- The state of a run that succeeded: a whole capture was read up to the end of the input, all of
  -- its table was written, and its diagnostics were reported. `is_whole` is true if and only if
  -- each packet was listed completely.
  pub record Finishes (is_whole : Bool) : Type 0 where
    -- the bytes of the capture up to its last packet
    pub bytes : List ℕ
    -- the bytes after them: none in a pcap file, and blocks without a packet in a pcapng file
    pub more : List ℕ
    -- the lines of all packets
    pub lines : List ℕ
    -- the diagnostics of all packets
    pub diagnostics : List ℕ
    pub table : IsTableOfCapture o front bytes lines diagnostics is_whole
    -- `more` contains no packet
    pub no_packet : IsCaptureEnd table.state more
    pub read : Consumes left left' (bytes ++ more)
    -- the input is at its end
    pub ended : IsAtEnd left'
    -- the heading and the lines were written
    pub appended : Appends held held' (heading ++ lines)
    pub reported : Reported diagnostics

-- ---- contracts

-- What a run was given, and what it did with its streams.
pub record ListingRun : Type 1 where
  pub options : Options
  -- the heading of the table
  pub heading : List ℕ
  -- the prefix of each diagnostic
  pub front : List ℕ
  -- the bytes of the input that were left to read before the run, if known, and after it
  pub left_before : Option (List ℕ)
  pub left_after : Option (List ℕ)
  -- a read of the input failed with this error
  pub ReadFailed : ReadError → Type 0
  -- the bytes of the output that were written before the run, if known, and after it
  pub held_before : Option (List ℕ)
  pub held_after : Option (List ℕ)
  -- this text was reported on standard error
  pub Reported : List ℕ → Type 0

-- `ListingEnds run outcome`: the run ended with this outcome: it listed the capture to its end
-- (Ok), and then `outcome` is whether each packet was listed completely; or it failed (Err)
abbrev pub ListingEnds : ListingRun → Result Bool ListError → Type 0
ListingEnds run outcome = MatchResult outcome
    (Finishes run.options run.left_before run.left_after run.held_before run.held_after
    run.heading run.front run.Reported)
    (Fails run.options run.left_before run.left_after run.held_before run.held_after
    run.heading run.front run.Reported run.ReadFailed)

-- `closing_text front outcome`: the line that names the failure of a run; nothing if the run did
-- not fail
abbrev pub closing_text : List ℕ → Result Bool ListError → List ℕ
closing_text front (Ok _) = []
closing_text front (Err error) = closing_line front error

-- `ListingEndsReported run outcome`: the run ended with this outcome, as in `ListingEnds`, and the
-- line that names its failure, if it failed, was reported after the diagnostics
abbrev pub ListingEndsReported : ListingRun → Result Bool ListError → Type 0
ListingEndsReported run outcome =
    ListingEnds (record run {
      Reported = λ diagnostics. run.Reported (diagnostics ++ closing_text run.front outcome);
    }) outcome
