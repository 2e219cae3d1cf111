use Rattle.std.proofs.Common.{◌≡◌, ◌≤◌, ℕ, List, [], ◌∷◌, ◌++◌, length, refl, sym, ap, arith}
use Rattle.std.proofs.Common.{inl, inr, replicate, append-nil, subst}
use Rattle.std.specs.List.{concat}
use Rattle.std.proofs.lemmas.List.{length-append, length-replicate}
use Rattle.netlink_core.specs.Attribute.{padding_length}
use Rattle.netlink_core.specs.Bytes.{IsBytes}
use Rattle.netlink_core.specs.Header.{message_length_in}
use Rattle.netlink_core.specs.laws.Byte.{IsBytes-append, IsBytes-cons, IsBytes-zeros}
use Rattle.netlink_packet_sock_diag.specs.Dump.{AreSplitsOfSameBytes, IsCompleteSplit}
use Rattle.netlink_packet_sock_diag.proofs.DumpRows.{bytes-concatenation}
use Rattle.netlink_packet_sock_diag.proofs.laws.padded_messages_are_complete.Goals as goal

-- the padding of a message, of zeros
abbrev zeros_after : List ℕ → List ℕ
zeros_after message = replicate (padding_length (length message)) 0

padded_message_is_complete : (message : List ℕ) (later : List (List ℕ)) → IsBytes message
    → 16 ≤ length message → message_length_in message ≡ length message → IsCompleteSplit later
    → IsCompleteSplit ((message ++ zeros_after message) ∷ later)
padded_message_is_complete message later in_range long own split =
    let zeros = zeros_after message in
    let size : length zeros ≡ padding_length (length message) =
    length-replicate {A = ℕ} (padding_length (length message)) 0 in (
      (IsBytes-append message zeros in_range (IsBytes-zeros _), split.0),
      (
        inr (
          message ∷ [],
          (
            [],
            record {
              padding = zeros;
              parts = ap (λ (l : List ℕ). message ++ l) (sym (append-nil zeros));
              whole = (long, own);
              filled = inl size;
            },
            refl,
          ),
          omega (arith, length-append message zeros, size),
        ),
        split.1,
      ),
    )

whole_is_split : (datagrams : List (List ℕ)) → IsCompleteSplit datagrams
    → AreSplitsOfSameBytes datagrams (concat datagrams ∷ [])
whole_is_split datagrams split = (
  split,
  ((bytes-concatenation datagrams split.0, tt), (inl refl, tt)),
  sym (append-nil (concat datagrams)),
)

-- an `NLMSG_DONE` of 17 bytes
abbrev done : List ℕ
done = 17 ∷ 0 ∷ 0 ∷ 0 ∷ 3 ∷ replicate 12 0

done_is_bytes : IsBytes done
done_is_bytes =
    let payload : IsBytes (3 ∷ replicate 12 0) =
    IsBytes-cons 3 (replicate 12 0) (omega arith) (IsBytes-zeros 12) in
    IsBytes-cons 17 (replicate 3 0 ++ (3 ∷ replicate 12 0)) (omega arith)
    (IsBytes-append (replicate 3 0) (3 ∷ replicate 12 0) (IsBytes-zeros 3) payload)

two_datagrams : AreSplitsOfSameBytes ((done ++ replicate 3 0) ∷ done ∷ [])
    (((done ++ replicate 3 0) ++ done) ∷ [])
two_datagrams =
    whole_is_split ((done ++ replicate 3 0) ∷ done ∷ [])
    (padded_message_is_complete done (done ∷ []) done_is_bytes (omega arith) refl
    ((done_is_bytes, tt), (inl refl, tt)))

pub returns : goal.returns
returns c = record {
  first = padded_message_is_complete;
  whole = whole_is_split;
  example = λ message is.
      subst (λ (m : List ℕ). AreSplitsOfSameBytes ((m ++ replicate 3 0) ∷ m ∷ [])
      (((m ++ replicate 3 0) ++ m) ∷ [])) (sym is) two_datagrams;
}
