-- Lemmas about the packets of a capture that were listed so far.
use Rattle.std.proofs.Common.{◌≡◌, ℕ, ◌+◌, List, [], ◌∷◌, ◌++◌, length, Bool, true, false}
use Rattle.std.proofs.Common.{refl}
use Rattle.std.proofs.Common.{sym, ap, subst, ◌∙◌, append_assoc, append-nil, arith}
use Rattle.std.proofs.lemmas.List.{length-append}
use Rattle.std.specs.Prelude.{IsTrue, Option, flat_map}
use Rattle.std.specs.List.{AllByRecursion}
use Rattle.std.specs.Io.KnownBytes.{Appends, Consumes}
use Rattle.std.proofs.KnownBytes.{Appends-nil, Appends-trans, Consumes-nil, Consumes-trans}
use Rattle.std.proofs.lemmas.Grind.{flat_map-append}
use Rattle.netlink_captures.specs.Capture.{CapturedPacket}
use Rattle.netlink_captures.specs.Reader.{CaptureState, ReadsPacket}
use Rattle.sslist_command_line.specs.declared.options.Options.{Options}
use Rattle.sslist_lister.specs.Diagnostics.{AreDiagnosed, DiagnosesPacket}
use Rattle.sslist_lister.specs.Listing.{ListsCapturedPacket, requests_after_packet}
use Rattle.sslist_lister.specs.Run.{AreListed, ArePackets, ListedPacket}
use Rattle.sslist_lister.specs.Requests.{PastRequests, no_requests}

-- the lines of a listed packet
abbrev pub lines_of_packet : ListedPacket → List ℕ
lines_of_packet listing = listing.lines

-- the packet was listed so; `past` are the requests before it
abbrev pub IsListed : Options → PastRequests → CapturedPacket → ListedPacket → Type 0
IsListed o past packet listing = ListsCapturedPacket o past packet [] listing.lines listing.whole

-- the packet was listed completely
abbrev pub IsListedCompletely : ListedPacket → Type 0
IsListedCompletely listing = IsTrue listing.whole

pub not_both : (b : Bool) → b ≡ false → b ≡ true → ⊥
not_both b is_false is_true = cc

pub whole_push : (xs : List ListedPacket) (x : ListedPacket)
    → AllByRecursion IsListedCompletely xs → IsListedCompletely x
    → AllByRecursion IsListedCompletely (xs ++ x ∷ [])
whole_push [] x h is = (is, tt)
whole_push (y ∷ xs) x h is = (h.0, whole_push xs x h.1 is)

pub whole_front : (xs : List ListedPacket) (x : ListedPacket)
    → AllByRecursion IsListedCompletely (xs ++ x ∷ [])
    → AllByRecursion IsListedCompletely xs
whole_front [] x h = tt
whole_front (y ∷ xs) x h = (h.0, whole_front xs x h.1)

pub whole_last : (xs : List ListedPacket) (x : ListedPacket)
    → AllByRecursion IsListedCompletely (xs ++ x ∷ [])
    → IsListedCompletely x
whole_last [] x h = h.0
whole_last (y ∷ xs) x h = whole_last xs x h.1

pub lines_push : (xs : List ListedPacket) (x : ListedPacket)
    → flat_map lines_of_packet (xs ++ x ∷ []) ≡ flat_map lines_of_packet xs ++ x.lines
lines_push xs x = flat_map-append lines_of_packet xs (x ∷ [])
    ∙ ap (λ (t : List ℕ). flat_map lines_of_packet xs ++ t) (append-nil x.lines)

-- the requests after these packets
pub requests_after_packets : PastRequests → List CapturedPacket → PastRequests
requests_after_packets past [] = past
requests_after_packets past (p ∷ ps) =
    requests_after_packets (requests_after_packet past p.bytes) ps

-- One more packet was listed.
pub listed_push : (o : Options) (past : PastRequests) (ps : List CapturedPacket)
    (xs : List ListedPacket)
    (p : CapturedPacket) (x : ListedPacket)
    → AreListed o past ps xs → IsListed o (requests_after_packets past ps) p x
    → AreListed o past (ps ++ p ∷ []) (xs ++ x ∷ [])
unfolding requests_after_packets
listed_push o past [] [] p x h is = (is, tt)
listed_push o past [] (y ∷ xs) p x h is = absurd h
listed_push o past (q ∷ ps) [] p x h is = absurd h
listed_push o past (q ∷ ps) (y ∷ xs) p x h is =
    (h.0, listed_push o (requests_after_packet past q.bytes) ps xs p x h.1 is)

-- The requests after one more packet.
pub requests_after_one_more : (past : PastRequests) (ps : List CapturedPacket) (p : CapturedPacket)
    → requests_after_packets past (ps ++ p ∷ [])
    ≡ requests_after_packet (requests_after_packets past ps) p.bytes
unfolding requests_after_packets
requests_after_one_more past [] p = refl
requests_after_one_more past (q ∷ ps) p =
    requests_after_one_more (requests_after_packet past q.bytes) ps p

-- There are no requests before the first packet.
pub no_requests_at_start : requests_after_packets no_requests [] ≡ no_requests
unfolding requests_after_packets
no_requests_at_start = refl

-- One more packet was diagnosed.
pub diagnosed_push : (front : List ℕ) (n : ℕ) (ps : List CapturedPacket) (p : CapturedPacket)
    (lines one : List ℕ) → AreDiagnosed front n ps lines
    → DiagnosesPacket front (length ps + n) p [] one
    → AreDiagnosed front n (ps ++ p ∷ []) (lines ++ one)
diagnosed_push front n [] p lines one h is =
    let same : 0 + n ≡ n = omega arith in (
      one,
      [],
      subst (λ (k : ℕ). DiagnosesPacket front k p [] one) same is,
      refl,
      ap (λ (t : List ℕ). t ++ one) h ∙ sym (append-nil one),
    )
diagnosed_push front n (q ∷ ps) p lines one (first, rest, of_first, of_rest, split) is =
    let same : length (q ∷ ps) + n ≡ length ps + (n + 1) = omega arith in (
      first,
      rest ++ one,
      of_first,
      diagnosed_push front (n + 1) ps p rest one of_rest
          (subst (λ (k : ℕ). DiagnosesPacket front k p [] one) same is),
      ap (λ (t : List ℕ). t ++ one) split ∙ append_assoc first rest one,
    )

-- One more packet follows.
pub packets_push : (s : CaptureState) (bytes : List ℕ) (ps : List CapturedPacket)
    (s' : CaptureState) (more : List ℕ) (p : CapturedPacket) (s'' : CaptureState)
    → ArePackets s bytes ps s' → ReadsPacket s' more p s''
    → ArePackets s (bytes ++ more) (ps ++ p ∷ []) s''
packets_push s bytes [] s' more p s'' h is =
    let same : ReadsPacket s more p s'' =
    subst (λ (t : CaptureState). ReadsPacket t more p s'') h.1 is in
    (more, [], s'', same, ap (λ (b : List ℕ). b ++ more) h.0 ∙ sym (append-nil more), (refl, refl))
packets_push s bytes (q ∷ ps) s' more p s'' (first, rest, mid, reads, split, later) is = (
  first,
  rest ++ more,
  mid,
  reads,
  ap (λ (b : List ℕ). b ++ more) split ∙ append_assoc first rest more,
  packets_push mid rest ps s' more p s'' later is,
)

module _ (o : Options) (front : List ℕ) (start : CaptureState) where
  -- These packets were read, listed and diagnosed. They led to the state `state` of the reader.
  -- `past` are the requests so far, `number` is the number of the next packet, and `is_whole` is
  -- true if and only if all were listed completely.
  pub record Progress (remaining remaining' contents contents' : Option (List ℕ))
      (state : CaptureState) (past : PastRequests) (is_whole : Bool) (number : ℕ) : Type 0 where
    pub records : List ℕ
    pub packets : List CapturedPacket
    pub listings : List ListedPacket
    pub diagnostics : List ℕ
    pub read : Consumes remaining remaining' records
    pub are_packets : ArePackets start records packets state
    pub listed : AreListed o no_requests packets listings
    pub diagnosed : AreDiagnosed front 1 packets diagnostics
    pub seen : past ≡ requests_after_packets no_requests packets
    pub appended : Appends contents contents' (flat_map lines_of_packet listings)
    pub flagged : IsTrue is_whole → AllByRecursion IsListedCompletely listings
    pub whole_only : AllByRecursion IsListedCompletely listings → IsTrue is_whole
    pub next : number ≡ length packets + 1

  abbrev pub progress_begins : (remaining contents : Option (List ℕ))
      → Progress remaining remaining contents contents start no_requests true 1
  progress_begins remaining contents = record {
    records = [];
    packets = [];
    listings = [];
    diagnostics = [];
    read = Consumes-nil remaining;
    are_packets = (refl, refl);
    listed = tt;
    diagnosed = refl;
    seen = sym no_requests_at_start;
    appended = Appends-nil contents;
    flagged = λ _. tt;
    whole_only = λ _. refl;
    next = refl;
  }

  -- One more packet was read and listed.
  abbrev pub progress_continues : (a b c x y z : Option (List ℕ)) (s s' : CaptureState)
      (more lines added : List ℕ)
      (p : CapturedPacket)
      (past past' : PastRequests) (one whole whole' : Bool) (number : ℕ)
      → Progress a b x y s past whole number
      → ReadsPacket s more p s' → past' ≡ requests_after_packet past p.bytes
      → IsListed o past p (record { lines = lines; whole = one })
      → DiagnosesPacket front number p [] added
      → Consumes b c more
      → Appends y z lines
      → (IsTrue whole' → IsTrue whole) → (IsTrue whole' → IsTrue one)
      → (IsTrue whole → IsTrue one → IsTrue whole')
      → Progress a c x z s' past' whole' (number + 1)
  progress_continues a b c x y z s s' more lines added p past past' one whole whole' number so_far
      is
      next listed diagnosed read appended flagged last both =
      let new : ListedPacket = record { lines = lines; whole = one } in
      let after : past' ≡ requests_after_packet (requests_after_packets no_requests so_far.packets)
      p.bytes =
      next ∙ ap (λ (q : PastRequests). requests_after_packet q p.bytes) so_far.seen in record {
        records = so_far.records ++ more;
        packets = so_far.packets ++ p ∷ [];
        listings = so_far.listings ++ new ∷ [];
        diagnostics = so_far.diagnostics ++ added;
        read = Consumes-trans a b c so_far.records more so_far.read read;
        are_packets = packets_push start so_far.records so_far.packets s more p s'
            so_far.are_packets is;
        listed = listed_push o no_requests so_far.packets so_far.listings p new so_far.listed
            (subst (λ (q : PastRequests). IsListed o q p new) so_far.seen listed);
        diagnosed = diagnosed_push front 1 so_far.packets p so_far.diagnostics added
            so_far.diagnosed
            (subst (λ (k : ℕ). DiagnosesPacket front k p [] added) so_far.next diagnosed);
        seen = after ∙ sym (requests_after_one_more no_requests so_far.packets p);
        appended = subst (λ (t : List ℕ). Appends x z t) (sym (lines_push so_far.listings new))
            (Appends-trans x y z (flat_map lines_of_packet so_far.listings) lines so_far.appended
            appended);
        flagged = λ h. whole_push so_far.listings new (so_far.flagged (flagged h)) (last h);
        whole_only = λ h. both (so_far.whole_only (whole_front so_far.listings new h))
            (whole_last so_far.listings new h);
        next = omega (arith, so_far.next, length-append so_far.packets (p ∷ []));
      }

  -- One more packet was listed, and all packets before it were listed completely.
  abbrev pub progress_continues_complete : (a b c x y z : Option (List ℕ)) (s s' : CaptureState)
      (more lines added : List ℕ)
      (p : CapturedPacket)
      (past past' : PastRequests) (one whole : Bool) (number : ℕ) → whole ≡ true
      → Progress a b x y s past whole number
      → ReadsPacket s more p s' → past' ≡ requests_after_packet past p.bytes
      → IsListed o past p (record { lines = lines; whole = one })
      → DiagnosesPacket front number p [] added
      → Consumes b c more
      → Appends y z lines → Progress a c x z s' past' one (number + 1)
  progress_continues_complete a b c x y z s s' more lines added p past past' one whole number
      is_whole so_far is
      next listed diagnosed read appended =
      progress_continues a b c x y z s s' more lines added p past past' one whole one number
      so_far is
      next listed diagnosed read appended (λ _. is_whole) (λ h. h) (λ _ h. h)

  -- One more packet was listed, and a packet before it had an error.
  abbrev pub progress_continues_incomplete : (a b c x y z : Option (List ℕ)) (s s' : CaptureState)
      (more lines added : List ℕ)
      (p : CapturedPacket)
      (past past' : PastRequests) (one whole : Bool) (number : ℕ) → whole ≡ false
      → Progress a b x y s past whole number
      → ReadsPacket s more p s' → past' ≡ requests_after_packet past p.bytes
      → IsListed o past p (record { lines = lines; whole = one })
      → DiagnosesPacket front number p [] added
      → Consumes b c more
      → Appends y z lines → Progress a c x z s' past' whole (number + 1)
  progress_continues_incomplete a b c x y z s s' more lines added p past past' one whole number
      is_part so_far is
      next listed diagnosed read appended =
      progress_continues a b c x y z s s' more lines added p past past' one whole whole number
      so_far
      is next listed diagnosed read appended
      (λ h. h) (λ h. absurd (not_both whole is_part h)) (λ h _. h)
