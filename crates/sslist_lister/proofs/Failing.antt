-- Lemmas about the state of a run that failed.
use Rattle.std.proofs.Common.{◌≡◌, ◌⊎◌, inl, inr, ℕ, ◌+◌, ◌-◌, ◌^◌, List, [], ◌∷◌, ◌++◌, length}
use Rattle.std.proofs.Common.{Bool, true, false, refl, sym, ap, subst, ◌∙◌, append_assoc}
use Rattle.std.proofs.Common.{append-nil}
use Rattle.std.specs.Prelude.{Option, None, Some, flat_map, Result, Ok, Err}
use Rattle.std.specs.Prelude.{MatchResult}
use Rattle.std.specs.Io.KnownBytes.{Appends, Consumes, Keeps, append_known}
use Rattle.std.proofs.KnownBytes.{Appends-kept, Appends-trans, Consumes-nil, Consumes-trans}
use Rattle.std.proofs.KnownBytes.{Keeps-refl}
use Rattle.netlink_captures.specs.Capture.{CapturedPacket, stopped_input}
use Rattle.netlink_captures.specs.Reader.{CaptureState, IsCaptureEnd, IsCaptureStart}
use Rattle.netlink_captures.specs.Reader.{IsCaptureStartStop, IsCaptureStop, ReadsPacket}
use Rattle.netlink_captures.proofs.ReaderLemmas.{nothing_more, stopped_at_once, stop_implies}
use Rattle.netlink_captures.specs.declared.captures.CaptureError.{CaptureError}
use Rattle.netlink_captures.specs.declared.captures.CaptureError.TheVariants.{Read}
use Rattle.sslist_texts.specs.declared.list_error.ListError.{ListError}
use Rattle.sslist_texts.specs.declared.list_error.ListError.TheVariants.{Header, Packet}
use Rattle.sslist_texts.specs.declared.list_error.ListError.TheVariants.{Memory}
use Rattle.sslist_texts.specs.declared.list_error.ListError.TheVariants.{Write}
use Rattle.program_streams.specs.declared.streams.ReadError.{ReadError}
use Rattle.program_streams.specs.declared.streams.ReadError.TheVariants.{Other}
use Rattle.program_streams.specs.declared.streams.WriteError.{WriteError}
use Rattle.sslist_command_line.specs.declared.options.Options.{Options}
use Rattle.sslist_lister.specs.Diagnostics.{DiagnosesPacket}
use Rattle.sslist_lister.specs.Listing.{requests_after_packet}
use Rattle.sslist_lister.specs.Requests.{PastRequests, no_requests}
use Rattle.sslist_lister.specs.Run.{FailsAtWrite, Fails, Finishes, IsTableOfCapture}
use Rattle.sslist_lister.specs.Run.{RunState, ListedPacket}
use Rattle.sslist_lister.proofs.Progress.{IsListed, lines_of_packet}
use Rattle.sslist_lister.proofs.Progress.{Progress, progress_continues_incomplete}
use Rattle.sslist_lister.proofs.Progress.{progress_continues_complete, lines_push}
use Rattle.sslist_lister.proofs.Progress.{progress_begins}

bool_cases : (b : Bool) → (b ≡ true) ⊎ (b ≡ false)
bool_cases true = inl refl
bool_cases false = inr refl

appended_known : (held : Option (List ℕ)) (more : List ℕ)
    → Appends held (append_known held more) more
appended_known None more = tt
appended_known (Some xs) more = refl

-- The error of a packet that could not be read is not a failed write.
pub no_write : (number : ℕ) (reason : CaptureError) (e : ListError) (P : WriteError → Type 0)
    → e ≡ Packet number reason → (error : WriteError) → e ≡ Write error → P error
no_write number reason e P is error write = absurd cc

-- A failed allocation is not a failed write.
pub no_memory : (e : ListError) (P : WriteError → Type 0) → e ≡ Memory
    → (error : WriteError) → e ≡ Write error → P error
no_memory e P is error write = absurd cc

-- A failed write is the one with its error.
pub write_cause : (e : ListError) (cause : WriteError) (P : WriteError → Type 0)
    → e ≡ Write cause → P cause → (error : WriteError) → e ≡ Write error → P error
write_cause e cause P is failed error write =
    let same : cause ≡ error = cc in
    subst P same failed

-- The run failed because the capture could not be opened.
pub fails_at_header : (o : Options) (a d x : Option (List ℕ)) (heading front : List ℕ)
    (Reported : List ℕ → Type 0) (unread : ReadError → Type 0) (e : ListError) → Reported []
    → ((error : CaptureError) × (e ≡ Header error) × (part : List ℕ) × Consumes a d part
    × IsCaptureStartStop (stopped_input d unread part) error)
    → Fails o a d x x heading front Reported unread e
fails_at_header o a d x heading front Reported unread e none (error, is, part, read, stop) =
    subst (λ (e : ListError). Fails o a d x x heading front Reported unread e) (sym is)
    (part, read, stop, Keeps-refl x, none)

-- A write of the heading or of the table failed.
fails_at_write : (o : Options) (a d x z : Option (List ℕ))
    (heading front bytes lines diagnostics : List ℕ) (Reported : List ℕ → Type 0) (whole : Bool)
    → (table : IsTableOfCapture o front bytes lines diagnostics whole) → Reported diagnostics
    → (more : List ℕ) → IsCaptureEnd table.state more
    → Consumes a d (bytes ++ more) → (sent rest : List ℕ) → heading ++ lines ≡ sent ++ rest
    → Appends x z sent → FailsAtWrite o a d x z heading front Reported
fails_at_write o a d x z heading front bytes lines diagnostics Reported whole table reported more
    end read sent rest split appended = (
      bytes,
      lines,
      diagnostics,
      whole,
      table,
      more,
      end,
      read,
      sent,
      rest,
      split,
      appended,
      reported,
    )

-- A write failed, and nothing was read after the packets of the table.
fails_at_write_of_packets : (o : Options) (a d x z : Option (List ℕ))
    (heading front bytes lines diagnostics : List ℕ) (Reported : List ℕ → Type 0) (whole : Bool)
    → IsTableOfCapture o front bytes lines diagnostics whole → Reported diagnostics
    → Consumes a d bytes → (sent rest : List ℕ) → heading ++ lines ≡ sent ++ rest
    → Appends x z sent → FailsAtWrite o a d x z heading front Reported
fails_at_write_of_packets o a d x z heading front bytes lines diagnostics Reported whole table
    reported read sent rest split appended =
    fails_at_write o a d x z heading front bytes lines diagnostics Reported whole table reported []
    (nothing_more table.state) (subst (Consumes a d) (sym (append-nil bytes)) read)
    sent rest split appended

module _ (o : Options) (front : List ℕ) (start : CaptureState) (header : List ℕ)
    (is : IsCaptureStart header start) where
  -- the table of the packets so far
  abbrev pub table_of : (b c y z : Option (List ℕ)) (state : CaptureState) (past : PastRequests)
      (whole : Bool) (number : ℕ)
      (p : Progress o front start b c y z state past whole number)
      → IsTableOfCapture o front (header ++ p.records) (flat_map lines_of_packet p.listings)
      p.diagnostics
      whole
  table_of b c y z state past whole number p = record {
    header = header;
    start = start;
    records = p.records;
    state = state;
    packets = p.packets;
    listings = p.listings;
    parts = refl;
    is_header = is;
    are_packets = p.are_packets;
    listed = p.listed;
    written = refl;
    diagnosed = p.diagnosed;
    whole = (p.flagged, p.whole_only);
  }

  -- The state after the packets so far, if more bytes were read.
  progress_is_run_state : (a b c d x y z : Option (List ℕ)) (heading more : List ℕ)
      (Reported : List ℕ → Type 0)
      (state : CaptureState) (past : PastRequests) (whole : Bool) (number : ℕ)
      (p : Progress o front start b c y z state past whole number)
      → Reported p.diagnostics
      → Consumes a b header → Consumes c d more → Appends x y heading
      → RunState o a d x z heading front Reported state (length p.packets) more
  progress_is_run_state a b c d x y z heading more Reported state past whole number p reported
      first last begun =
      record {
        bytes = header ++ p.records;
        lines = flat_map lines_of_packet p.listings;
        diagnostics = p.diagnostics;
        is_whole = whole;
        table = table_of b c y z state past whole number p;
        reached = refl;
        counted = refl;
        read = Consumes-trans a c d (header ++ p.records) more
            (Consumes-trans a b c header p.records first p.read) last;
        appended = Appends-trans x y z heading (flat_map lines_of_packet p.listings) begun
            p.appended;
        reported = reported;
      }

  -- The heading could not be written.
  pub fails_at_heading : (a b x z : Option (List ℕ)) (heading : List ℕ)
      (Reported : List ℕ → Type 0) → Reported []
      → Consumes a b header → (sent rest : List ℕ) → heading ≡ sent ++ rest → Appends x z sent
      → FailsAtWrite o a b x z heading front Reported
  fails_at_heading a b x z heading Reported none first sent rest split appended =
      fails_at_write_of_packets o a b x z heading front (header ++ []) [] [] Reported true
      (table_of b b x x start no_requests true 1 (progress_begins o front start b x)) none
      (Consumes-trans a b b header [] first (Consumes-nil b)) sent rest (append-nil heading
      ∙ split) appended

  module _ (a b c x y z : Option (List ℕ)) (heading : List ℕ) (state : CaptureState)
      (past : PastRequests) (whole : Bool) (number : ℕ)
      (p : Progress o front start b c y z state past whole number)
      (first : Consumes a b header) (begun : Appends x y heading) where
    module _ (Reported : List ℕ → Type 0) (reported : Reported p.diagnostics) where
      -- The run failed because a packet could not be read.
      pub fails_at_packet : (d : Option (List ℕ)) (unread : ReadError → Type 0) (e : ListError)
          → ((error : CaptureError) × (e ≡ Packet number error) × (part : List ℕ)
          × Consumes c d part × IsCaptureStop state (stopped_input d unread part) error)
          → Fails o a d x z heading front Reported unread e
      fails_at_packet d unread e (error, same, part, read, stop) =
          subst (λ (e : ListError). Fails o a d x z heading front Reported unread e) (sym same) (
            state,
            length p.packets,
            part,
            progress_is_run_state a b c d x y z heading part Reported state past whole number p
                reported first read begun,
            p.next,
            stop_implies d unread
                (λ cause. unread cause ⊎ ((number ≡ 2 ^ 64 - 1) × (cause ≡ Other)))
                (λ cause h. inl h) state part error stop,
          )

      -- The run failed because the next packet has no number.
      pub fails_past_numbers : (unread : ReadError → Type 0) → number ≡ 2 ^ 64 - 1
          → Fails o a c x z heading front Reported unread
          (Packet (2 ^ 64 - 1) (Read Other))
      fails_past_numbers unread last = (
        state,
        length p.packets,
        [],
        progress_is_run_state a b c c x y z heading [] Reported state past whole number p reported
            first (Consumes-nil c) begun,
        sym last ∙ p.next,
        stopped_at_once state c
            (λ cause. unread cause ⊎ ((2 ^ 64 - 1 ≡ 2 ^ 64 - 1) × (cause ≡ Other))) Other
            (inr (refl, refl)),
      )

      -- The run failed because an allocation for the lines of a packet failed.
      pub fails_at_memory : (d : Option (List ℕ)) (unread : ReadError → Type 0) (e : ListError)
          (bytes : List ℕ) (packet : CapturedPacket) (after : CaptureState) → e ≡ Memory
          → ReadsPacket state bytes packet after → Consumes c d bytes
          → Fails o a d x z heading front Reported unread e
      fails_at_memory d unread e bytes packet after memory reads read =
          subst (λ (e : ListError). Fails o a d x z heading front Reported unread e) (sym memory) (
            state,
            after,
            length p.packets,
            bytes,
            packet,
            reads,
            progress_is_run_state a b c d x y z heading bytes Reported state past whole number p
                reported first read begun,
          )

      -- The last flush failed.
      pub fails_at_flush : (d z' : Option (List ℕ)) (more : List ℕ) → IsCaptureEnd state more
          → Consumes c d more → Keeps z z'
          → FailsAtWrite o a d x z' heading front Reported
      fails_at_flush d z' more end last kept =
          let lines = flat_map lines_of_packet p.listings in
          fails_at_write o a d x z' heading front (header ++ p.records) lines p.diagnostics
          Reported whole (table_of b c y z state past whole number p) reported more end
          (Consumes-trans a c d (header ++ p.records) more
          (Consumes-trans a b c header p.records first p.read) last)
          (heading ++ lines) [] (sym (append-nil (heading ++ lines)))
          (Appends-kept x z z' (heading ++ lines)
          (Appends-trans x y z heading lines begun p.appended) kept)

    -- The lines of a packet could not be written.
    pub fails_at_lines : (Reported : List ℕ → Type 0) (d z' : Option (List ℕ))
        (more lines added : List ℕ) (packet : CapturedPacket) (after : CaptureState)
        (past' : PastRequests) (one : Bool)
        → Reported (p.diagnostics ++ added)
        → ReadsPacket state more packet after → past' ≡ requests_after_packet past packet.bytes
        → IsListed o past packet (record { lines = lines; whole = one })
        → DiagnosesPacket front number packet [] added
        → Consumes c d more
        → (sent rest : List ℕ) → lines ≡ sent ++ rest → Appends z z' sent
        → FailsAtWrite o a d x z' heading front Reported
    fails_at_lines Reported d z' more lines added packet after past' one reported reads next
        listed diagnosed read sent rest split appended =
        let before = flat_map lines_of_packet p.listings in
        let new : ListedPacket = record { lines = lines; whole = one } in
        let w = append_known z lines in
        let wrote = appended_known z lines in
        let joined : heading ++ flat_map lines_of_packet (p.listings ++ new ∷ [])
        ≡ ((heading ++ before)
        ++ sent) ++ rest =
        ap (λ (t : List ℕ). heading ++ t) (lines_push p.listings new)
        ∙ sym (append_assoc heading before lines)
        ∙ ap (λ (t : List ℕ). (heading ++ before) ++ t) split
        ∙ sym (append_assoc (heading ++ before) sent rest) in
        let all : Appends x z' ((heading ++ before) ++ sent) =
        Appends-trans x z z' (heading ++ before) sent
        (Appends-trans x y z heading before begun p.appended) appended in
        let bytes : Consumes a d (header ++ (p.records ++ more)) =
        Consumes-trans a b d header (p.records ++ more) first
        (Consumes-trans b c d p.records more p.read read) in
        elim (bool_cases whole) [
          | inl t ↦ fails_at_write_of_packets o a d x z' heading front _ _ _ Reported one
              (table_of b d y w after past' one (number + 1)
              (progress_continues_complete o front start b c d y z w state after more lines
              added packet past
              past' one whole number t p reads next listed diagnosed read wrote))
              reported bytes ((heading ++ before) ++ sent) rest joined all
          | inr f ↦ fails_at_write_of_packets o a d x z' heading front _ _ _ Reported whole
              (table_of b d y w after past' whole (number + 1)
              (progress_continues_incomplete o front start b c d y z w state after more lines
              added packet past
              past' one whole number f p reads next listed diagnosed read wrote))
              reported bytes ((heading ++ before) ++ sent) rest joined all
        ]

-- a statement about the reported diagnostics, and one that follows from it
module _ (o : Options) (left left' held held' : Option (List ℕ)) (heading front : List ℕ)
    (P Q : List ℕ → Type 0) (implies : (diagnostics : List ℕ) → P diagnostics → Q diagnostics) where
  abbrev pub run_state_implies : (state : CaptureState) (packets : ℕ) (more : List ℕ)
      → RunState o left left' held held' heading front P state packets more
      → RunState o left left' held held' heading front Q state packets more
  run_state_implies state packets more h = record {
    bytes = h.bytes;
    lines = h.lines;
    diagnostics = h.diagnostics;
    is_whole = h.is_whole;
    table = h.table;
    reached = h.reached;
    counted = h.counted;
    read = h.read;
    appended = h.appended;
    reported = implies h.diagnostics h.reported;
  }

  fails_at_write_implies : FailsAtWrite o left left' held held' heading front P
      → FailsAtWrite o left left' held held' heading front Q
  fails_at_write_implies (
    bytes,
    lines,
    diagnostics,
    whole,
    table,
    more,
    end,
    read,
    sent,
    rest,
    split,
    appended,
    reported,
  ) = (
    bytes,
    lines,
    diagnostics,
    whole,
    table,
    more,
    end,
    read,
    sent,
    rest,
    split,
    appended,
    implies diagnostics reported,
  )

  pub fails_implies : (unread : ReadError → Type 0) (e : ListError)
      → Fails o left left' held held' heading front P unread e
      → Fails o left left' held held' heading front Q unread e
  fails_implies unread (Header error) (part, read, stop, kept, reported) =
      (part, read, stop, kept, implies [] reported)
  fails_implies unread (Packet number error) (state, packets, part, h, is, stop) =
      (state, packets, part, run_state_implies state packets part h, is, stop)
  fails_implies unread Memory (state, after, packets, bytes, packet, is, h) =
      (state, after, packets, bytes, packet, is, run_state_implies state packets bytes h)
  fails_implies unread (Write error) h = fails_at_write_implies h

  pub finishes_implies : (whole : Bool)
      → Finishes o left left' held held' heading front P whole
      → Finishes o left left' held held' heading front Q whole
  finishes_implies whole h = record {
    bytes = h.bytes;
    more = h.more;
    lines = h.lines;
    diagnostics = h.diagnostics;
    table = h.table;
    no_packet = h.no_packet;
    read = h.read;
    ended = h.ended;
    appended = h.appended;
    reported = implies h.diagnostics h.reported;
  }

-- The outcome of a run, if what is known of the reported diagnostics implies another statement.
pub run_outcome : (o : Options) (left left' held held' : Option (List ℕ)) (heading front : List ℕ)
    (P Q : List ℕ → Type 0) (unread : ReadError → Type 0) (r : Result Bool ListError)
    → ((diagnostics : List ℕ) → P diagnostics → Q diagnostics)
    → MatchResult r (Finishes o left left' held held' heading front P)
    (Fails o left left' held held' heading front P unread)
    → MatchResult r (Finishes o left left' held held' heading front Q)
    (Fails o left left' held held' heading front Q unread)
run_outcome o left left' held held' heading front P Q unread (Ok whole) implies finishes =
    finishes_implies o left left' held held' heading front P Q implies whole finishes
run_outcome o left left' held held' heading front P Q unread (Err e) implies fails =
    fails_implies o left left' held held' heading front P Q implies unread e fails
