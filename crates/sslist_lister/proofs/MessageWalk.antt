-- Lemmas about the messages of a datagram, which are listed one by one.
use Rattle.std.proofs.Common.{◌≡◌, ◌≢◌, List, [], ◌∷◌, ◌++◌, ℕ, ◌+◌, ◌≤◌, ◌<◌, Bool, true, false}
use Rattle.std.proofs.Common.{length, refl, sym, ap, subst, ◌∙◌, append_assoc, arith}
use Rattle.std.specs.Prelude.{Option, None, Some, ◌&&◌, ◌==◌, bit_and, if◌then◌else◌}
use Rattle.std.specs.List.{flat_map, list_all}
use Rattle.std.proofs.lemmas.Bool.Decides.{leb_tells}
use Rattle.std.proofs.lemmas.List.{append-nil, length-append}
use Rattle.std.proofs.lemmas.List.Folds.{list_all-append}
use Rattle.std.proofs.lemmas.Grind.{flat_map-append}
use Rattle.netlink_core.proofs.Datagrams.{shorter-rest}
use Rattle.netlink_core.specs.Datagram.{SplitsIntoMessages, StartsWithMessage}
use Rattle.netlink_core.specs.Header.{HasHeader, IsMessageError, header_of_numbers}
use Rattle.netlink_core.specs.declared.error.DecodeError.{DecodeError}
use Rattle.netlink_core.specs.declared.header.NetlinkHeader.{NetlinkHeader}
use Rattle.sslist_lister.specs.Diagnostics.{line_start, lines_about, lines_about_message}
use Rattle.sslist_lister.specs.Messages.{begins_with_message, leading_header}
use Rattle.netlink_core.specs.declared.message.TheConstants.{NLM_F_REQUEST}
use Rattle.sslist_lister.specs.Messages.{MessageParts, message_in, request_in}

-- The header that bytes begin with.
pub header_found : (bytes : List ℕ) (h : NetlinkHeader) → HasHeader bytes h
    → leading_header bytes ≡ h
unfolding leading_header
header_found bytes h has = ap header_of_numbers has.0

-- Bytes with a header begin with a message.
pub message_begins : (bytes : List ℕ) (h : NetlinkHeader) → HasHeader bytes h
    → begins_with_message bytes ≡ true
message_begins bytes h has = rw (header_found bytes h has) (grind (arith, leb_tells, has))

-- Bytes with an error do not begin with a message.
pub no_message_begins : (bytes : List ℕ) (e : DecodeError) → IsMessageError bytes e
    → begins_with_message bytes ≡ false
unfolding leading_header
no_message_begins bytes e error = grind (arith, leb_tells, error)

-- The request that bytes with a header begin with.
pub request_found : (bytes : List ℕ) (h : NetlinkHeader) → HasHeader bytes h
    → request_in bytes ≡ (if bit_and h.flags NLM_F_REQUEST == 0 then None
    else Some (message_in bytes))
request_found bytes h has =
    rw (message_begins bytes h has, header_found bytes h has) (grind arith)

-- Bytes with an error begin with no request.
pub no_request_found : (bytes : List ℕ) (e : DecodeError) → IsMessageError bytes e
    → request_in bytes ≡ None
no_request_found bytes e error = rw (no_message_begins bytes e error) refl

-- Some messages of a datagram were read. `rest` are the bytes after them.
pub record ReadSoFar (datagram rest : List ℕ) (passed : List (List ℕ)) : Type 0 where
  pub walk : (later : List (List ℕ)) (end : Option DecodeError) → SplitsIntoMessages rest later end
      → SplitsIntoMessages datagram (passed ++ later) end
  pub short : length passed + length rest ≤ length datagram

-- At the start no message was read.
pub none_read : (datagram : List ℕ) → ReadSoFar datagram datagram []
none_read datagram = record { walk = λ later end cut. cut; short = omega arith }

-- One more message was read.
pub one_more_read : (datagram rest next : List ℕ) (passed : List (List ℕ)) (m : List ℕ)
    → ReadSoFar datagram rest passed → StartsWithMessage rest m next
    → ReadSoFar datagram next (passed ++ m ∷ [])
one_more_read datagram rest next passed m so_far starts = record {
  walk = λ later end cut. subst (λ (all : List (List ℕ)). SplitsIntoMessages datagram all end)
      (sym (append_assoc passed (m ∷ []) later))
      (so_far.walk (m ∷ later) end (next, starts, cut));
  short = omega (
    arith,
    so_far.short,
    length-append passed (m ∷ []),
    shorter-rest rest m next starts,
  );
}

-- All messages were read, if no message is left.
pub all_read : (datagram rest : List ℕ) (passed : List (List ℕ)) (end : Option DecodeError)
    → ReadSoFar datagram rest passed → SplitsIntoMessages rest [] end
    → SplitsIntoMessages datagram passed end
all_read datagram rest passed end so_far cut =
    subst (λ (all : List (List ℕ)). SplitsIntoMessages datagram all end) (append-nil passed)
    (so_far.walk [] end cut)

-- A list that is not empty has a positive length.
pub has_bytes : (bytes : List ℕ) → bytes ≢ [] → 0 < length bytes
has_bytes [] some = absurd (some refl)
has_bytes (b ∷ bytes) some = omega arith

-- The number of the next message is at most the length of the datagram, since each message has
-- bytes.
pub counted_on : (datagram rest : List ℕ) (passed : List (List ℕ)) (count count' : ℕ)
    → ReadSoFar datagram rest passed → count ≡ length passed → 0 < length rest
    → (count < length datagram → count' ≡ count + 1) → count' ≡ count + 1
counted_on datagram rest passed count count' so_far counted some next =
    next (omega (arith, counted, so_far.short, some))

-- The lines of one more message follow those of the others.
pub one_more_listed : (lines : MessageParts → List ℕ) (passed : List (List ℕ)) (m : List ℕ)
    (parts : MessageParts) (before now new : List ℕ) → parts ≡ message_in m
    → now ≡ before ++ flat_map (λ m. lines (message_in m)) passed → new ≡ now ++ lines parts
    → new ≡ before ++ flat_map (λ m. lines (message_in m)) (passed ++ m ∷ [])
one_more_listed lines passed m parts before now new same so_far added =
    grind (arith, append_assoc, append-nil, flat_map-append)

-- All messages are clean if one more is, and the others are.
pub one_more_clean : (clean : MessageParts → Bool) (passed : List (List ℕ)) (m : List ℕ)
    (parts : MessageParts) (so_far is : Bool) → parts ≡ message_in m
    → so_far ≡ list_all (λ m. clean (message_in m)) passed → is ≡ clean parts
    → (so_far && is) ≡ list_all (λ m. clean (message_in m)) (passed ++ m ∷ [])
one_more_clean clean passed m parts so_far is same before now =
    grind (arith, list_all-append (λ m. clean (message_in m)) passed (m ∷ []))

module _ (front : List ℕ) (packet : ℕ) where
  about_push : (n : ℕ) (xs : List (List ℕ)) (m : List ℕ)
      → lines_about front packet n (xs ++ m ∷ []) ≡ lines_about front packet n xs
      ++ lines_about_message (line_start front packet (length xs + n)) (message_in m)
  about_push n [] m =
      let same : n ≡ 0 + n = omega arith in
      append-nil (lines_about_message (line_start front packet n) (message_in m))
      ∙ ap (λ (k : ℕ). lines_about_message (line_start front packet k) (message_in m)) same
  about_push n (x ∷ xs) m =
      let same : length xs + (n + 1) ≡ length (x ∷ xs) + n = omega arith in
      let first = lines_about_message (line_start front packet n) (message_in x) in
      let later = lines_about front packet (n + 1) xs in
      ap (λ (t : List ℕ). first ++ t) (about_push (n + 1) xs m)
      ∙ sym (append_assoc first later
      (lines_about_message (line_start front packet (length xs + (n + 1))) (message_in m)))
      ∙ ap (λ (k : ℕ). (first ++ later)
      ++ lines_about_message (line_start front packet k) (message_in m)) same

  -- The lines about one more message follow those about the others.
  pub one_more_diagnosed : (passed : List (List ℕ)) (m : List ℕ) (parts : MessageParts) (count : ℕ)
      (before now new : List ℕ) → parts ≡ message_in m → count ≡ length passed + 1
      → now ≡ before ++ lines_about front packet 1 passed
      → new ≡ now ++ lines_about_message (line_start front packet count) parts
      → new ≡ before ++ lines_about front packet 1 (passed ++ m ∷ [])
  one_more_diagnosed passed m parts count before now new same counted so_far added =
      grind (arith, append_assoc, about_push 1 passed m)
