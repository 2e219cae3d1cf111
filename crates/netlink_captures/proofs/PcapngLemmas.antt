-- Lemmas about blocks of pcapng files.
use Rattle.std.proofs.Common.{◌≡◌, ℕ, zero, suc, ◌+◌, ◌-◌, ◌<◌, ◌≤◌, List, [], ◌∷◌, ◌++◌, length}
use Rattle.std.proofs.Common.{◌⊎◌, inl, inr, true, false, length-append, drop, refl, sym, ap, subst}
use Rattle.std.proofs.Common.{◌∙◌, append-nil, arith, length-drop}
use Rattle.std.proofs.lemmas.Bool.Decides.{nat_tests}
use Rattle.std.specs.Prelude.{◌≢◌, ◌==◌, ◌^◌, MatchOption, Option, None, Some, Result, Ok, Err}
use Rattle.std.proofs.lemmas.List.{drop-append-le}
use Rattle.std.specs.List.{concat}
use Rattle.std.proofs.lemmas.List.Folds.{concat-append}
use Rattle.byteorder.specs.Endian.{little_from, big_from}
use Rattle.byteorder.specs.Numbers.{little_from-append, big_from-append}
use Rattle.program_streams.specs.declared.streams.ReadError.{ReadError}
use Rattle.netlink_captures.specs.Capture.{IsInputStop, number_at_offset, stopped_input}
use Rattle.netlink_captures.specs.declared.captures.ByteOrder.{ByteOrder}
use Rattle.netlink_captures.specs.declared.captures.ByteOrder.TheVariants.{LittleEndian, BigEndian}
use Rattle.netlink_captures.specs.declared.block_error.BlockError.TheVariants.{Options}
use Rattle.netlink_captures.specs.declared.captures.CaptureError.{CaptureError}
use Rattle.netlink_captures.specs.declared.captures.CaptureError.TheVariants.{Memory}
use Rattle.netlink_captures.specs.declared.captures.TimeUnit.TheVariants.{Microseconds}
use Rattle.netlink_captures.specs.declared.pcapng.Content.{Content}
use Rattle.netlink_captures.specs.declared.pcapng.Content.TheVariants.{Captured, Described}
use Rattle.netlink_captures.specs.declared.pcapng.Content.TheVariants.{SectionHeader, Skipped}
use Rattle.netlink_captures.specs.declared.pcapng.PacketSlot.{PacketSlot}
use Rattle.netlink_captures.specs.private.Pcapng.{MovesOver}
use Rattle.netlink_captures.specs.Pcapng.{AreSkipped, HasContent, IsBlockStop}
use Rattle.netlink_captures.specs.Pcapng.{IsNoPacket, IsStopInBlock, IsWholeBlock, Position}
use Rattle.netlink_captures.specs.Pcapng.{after_block, block_at, block_length, checked_order}
use Rattle.netlink_captures.specs.Pcapng.{content_of, is_section_header, option_code, option_size}
use Rattle.netlink_captures.specs.Pcapng.{order_of_block, order_or_error, unit_in, unit_in_option}
use Rattle.netlink_captures.specs.Pcapng.{unit_or_next}

-- A number in the first bytes does not depend on later bytes.
pub number_at_offset-append : (order : ByteOrder) (n k : ℕ) (a b : List ℕ) → k + n ≤ length a
    → number_at_offset order n k (a ++ b) ≡ number_at_offset order n k a
number_at_offset-append LittleEndian n k a b within =
    ap (little_from 0 n) (drop-append-le k a b (omega arith))
    ∙ little_from-append n (drop k a) b (omega (arith, length-drop k a))
number_at_offset-append BigEndian n k a b within =
    ap (big_from 0 n) (drop-append-le k a b (omega arith))
    ∙ big_from-append n (drop k a) b (omega (arith, length-drop k a))

-- Whether a block is a section header is in its first four bytes.
pub is_section_header-append : (a b : List ℕ) → 4 ≤ length a
    → is_section_header (a ++ b) ≡ is_section_header a
is_section_header-append a b long = rw (number_at_offset-append BigEndian 4 0 a b long) refl

order_of_block-append : (order : ByteOrder) (a b : List ℕ) → 12 ≤ length a
    → order_of_block order (a ++ b) ≡ order_of_block order a
order_of_block-append order a b long =
    rw (
      number_at_offset-append BigEndian 4 0 a b (omega arith),
      number_at_offset-append LittleEndian 4 8 a b (omega arith),
      number_at_offset-append BigEndian 4 8 a b (omega arith),
    ) refl

order_or_error-append : (p : Position) (a b : List ℕ) (order : Option ByteOrder) → 12 ≤ length a
    → order_or_error p (a ++ b) order ≡ order_or_error p a order
order_or_error-append p a b None long = refl
order_or_error-append p a b (Some order) long =
    rw (number_at_offset-append order 4 4 a b (omega arith)) refl

-- The byte order of a block is in its first 12 bytes.
pub checked_order-append : (p : Position) (a b : List ℕ) → 12 ≤ length a
    → checked_order p (a ++ b) ≡ checked_order p a
checked_order-append p a b long =
    ap (order_or_error p (a ++ b)) (order_of_block-append p.order a b long)
    ∙ order_or_error-append p a b (order_of_block p.order a) long

-- ---- the options of an interface

-- The unit of timestamps is that of the first option, or that of the others.
unit_in_step : (count : ℕ) (order : ByteOrder) (options : List ℕ) → 0 < count
    → unit_in count order options
    ≡ unit_or_next order options
    (unit_in (count - 1) order (drop (option_size order options) options))
unfolding unit_in
unit_in_step zero order options some = absurd (omega arith)
unit_in_step (suc n) order options some =
    let same : n ≡ suc n - 1 = omega arith in
    ap (λ (k : ℕ). unit_or_next order options
    (unit_in k order (drop (option_size order options) options))) same

-- No options are left.
pub unit_at_end : (count : ℕ) (order : ByteOrder) (options : List ℕ) → 0 < count
    → (length options == 0) ≡ true → unit_in count order options ≡ Ok Microseconds
unit_at_end count order options some none =
    unit_in_step count order options some ∙ (rw none refl)

-- Fewer bytes are left than the header of an option has.
pub unit_cut : (count : ℕ) (order : ByteOrder) (options : List ℕ) → 0 < count
    → (length options == 0) ≡ false → length options < 4
    → unit_in count order options ≡ Err Options
unit_cut count order options some more short =
    unit_in_step count order options some ∙ grind (arith, nat_tests)

-- The option is the last one.
pub unit_after_last : (count : ℕ) (order : ByteOrder) (options : List ℕ) → 0 < count
    → 4 ≤ length options → option_code order options ≡ 0
    → unit_in count order options ≡ Ok Microseconds
unit_after_last count order options some long last =
    unit_in_step count order options some ∙ grind (arith, nat_tests)

-- The option is longer than what is left.
pub unit_past : (count : ℕ) (order : ByteOrder) (options : List ℕ) → 0 < count
    → 4 ≤ length options → option_code order options ≢ 0
    → length options < option_size order options
    → unit_in count order options ≡ Err Options
unit_past count order options some long other past =
    unit_in_step count order options some ∙ grind (arith, nat_tests)

-- The option has the unit.
pub unit_found : (count : ℕ) (order : ByteOrder) (options : List ℕ) → 0 < count
    → 4 ≤ length options → option_code order options ≡ 9
    → option_size order options ≤ length options
    → unit_in count order options ≡ unit_in_option order options
unit_found count order options some long found within =
    unit_in_step count order options some ∙ grind (arith, nat_tests)

-- The option is another one.
pub unit_later : (count : ℕ) (order : ByteOrder) (options : List ℕ) → 0 < count
    → 4 ≤ length options → option_code order options ≢ 0
    → option_code order options ≢ 9
    → option_size order options ≤ length options
    → unit_in count order options
    ≡ unit_in (count - 1) order (drop (option_size order options) options)
unit_later count order options some long other missed within =
    unit_in_step count order options some ∙ grind (arith, nat_tests)

-- The unit is that of no options.
pub unit_of_none : (order : ByteOrder) (options : List ℕ)
    → unit_in 0 order options ≡ Ok Microseconds
unfolding unit_in
unit_of_none order options = refl

-- ---- consecutive blocks

-- One more block without a packet.
pub skipped_push : (blocks : List (List ℕ)) (p q : Position) (block : List ℕ)
    (order : ByteOrder) (content : Content)
    → AreSkipped p blocks q → HasContent (block_at q order block) content → IsNoPacket content
    → AreSkipped p (blocks ++ block ∷ []) (after_block (block_at q order block) content)
skipped_push [] p q block order content none valid other =
    subst (λ (r : Position). AreSkipped r (block ∷ [])
    (after_block (block_at q order block) content)) none (order, content, valid, other, refl)
skipped_push (first ∷ blocks) p q block order content (o, c, valid', other', later) valid other = (
  o,
  c,
  valid',
  other',
  skipped_push blocks _ q block order content later valid other,
)

-- The bytes of one more block.
pub concat_push : (blocks : List (List ℕ)) (block : List ℕ)
    → concat (blocks ++ block ∷ []) ≡ concat blocks ++ block
concat_push blocks block =
    concat-append blocks (block ∷ [])
    ∙ ap (λ (l : List ℕ). concat blocks ++ l) (append-nil block)

-- ---- the bytes of a block

-- A whole block is its first 12 bytes and as many more as its length has.
pub framed : (p : Position) (head rest : List ℕ) (order : ByteOrder) → length head ≡ 12
    → checked_order p head ≡ Ok order → 12 + length rest ≡ block_length order head
    → IsWholeBlock (block_at p order (head ++ rest))
framed p head rest order long ok whole = record {
  long = omega (arith, length-append head rest);
  ordered = checked_order-append p head rest (omega arith) ∙ ok;
  whole = number_at_offset-append order 4 4 head rest (omega arith)
      ∙ (omega (arith, length-append head rest));
}

-- A stop after the first 12 bytes of a block, `head`, is a reason why no whole block was read.
module _ (p : Position) (left : Option (List ℕ)) (failed : ReadError → Type 0) (head : List ℕ)
    (long : length head ≡ 12) where
  -- The byte order or the length is invalid.
  pub stop_at_head : (e : CaptureError) → checked_order p head ≡ Err e
      → IsStopInBlock p (stopped_input left failed (head ++ [])) e
  stop_at_head e invalid = inr (inr (
    omega (arith, length-append head [], long),
    checked_order-append p head [] (omega (arith, long)) ∙ invalid,
  ))

  -- The rest of the block could not be read.
  pub stop_at_rest : (part : List ℕ) (order : ByteOrder) (e : CaptureError)
      → checked_order p head ≡ Ok order
      → (e ≡ Memory) ⊎ ((12 + length part < block_length order head)
      × IsInputStop (stopped_input left failed part) e)
      → IsStopInBlock p (stopped_input left failed (head ++ part)) e
  stop_at_rest part order e ok stop =
      let joined = length-append head part in
      let ordered = checked_order-append p head part (omega (arith, long)) ∙ ok in
      let same = number_at_offset-append order 4 4 head part (omega (arith, long)) in
      elim stop [
        | inl memory ↦ inr (inl (omega (arith, joined, long), (order, ordered), memory))
        | inr s ↦ inl (
          inr (order, ordered, omega (arith, s.0, joined, long, same)),
          λ _. omega (arith, joined, long),
          s.1,
        )
      ]

length_fits_by_order : (p : Position) (block : List ℕ) (order : ByteOrder) (o : Option ByteOrder)
    → order_or_error p block o ≡ Ok order
    → p.offset + block_length order block < 2 ^ 64
length_fits_by_order p block order None h = absurd (cc)
length_fits_by_order p block order (Some x) h =
    grind (arith, nat_tests)

-- A block with a valid length ends at an offset that fits 64 bits.
pub length_fits : (p : Position) (block : List ℕ) (order : ByteOrder)
    → checked_order p block ≡ Ok order → p.offset + block_length order block < 2 ^ 64
length_fits p block order h = length_fits_by_order p block order (order_of_block p.order block) h

same_content : (p q : Position) (order : ByteOrder) (a b : List ℕ)
    (content : Result Content CaptureError) → p ≡ q → a ≡ b
    → content ≡ content_of (block_at p order a) → content ≡ content_of (block_at q order b)
same_content p q order a b content same equal is =
    is ∙ ap (λ (x : Position). content_of (block_at x order a)) same
    ∙ ap (λ (l : List ℕ). content_of (block_at q order l)) equal

-- A whole block with an invalid content was not read.
pub stop_at_content : (p q : Position) (left : Option (List ℕ)) (failed : ReadError → Type 0)
    (head rest block shown : List ℕ) (order : ByteOrder) (e : CaptureError)
    → length head ≡ 12 → checked_order p head ≡ Ok order
    → 12 + length rest ≡ block_length order head → block ≡ head ++ rest → shown ≡ block
    → q ≡ p → Err e ≡ content_of (block_at q order shown)
    → IsBlockStop p (stopped_input left failed (head ++ rest)) e
stop_at_content p q left failed head rest block shown order e long ok whole stored same kept is =
    inr (
      order,
      framed p head rest order long ok whole,
      sym (same_content q p order shown (head ++ rest) (Err e) kept (same ∙ stored) is),
    )

-- A valid block was read, from the position `p` to `p'`.
pub moved_over : (p q p' : Position) (head rest block block' shown : List ℕ) (order : ByteOrder)
    (content : Content) → length head ≡ 12 → checked_order p head ≡ Ok order
    → 12 + length rest ≡ block_length order head → block ≡ head ++ rest
    → block' ≡ block → shown ≡ block → q ≡ p
    → Ok content ≡ content_of (block_at q order shown)
    → p' ≡ after_block (block_at q order block) content
    → MovesOver p block' content p'
moved_over p q p' head rest block block' shown order content long ok whole stored kept_block same
    kept is moved = (
      order,
      record {
        is_whole = subst (λ (l : List ℕ). IsWholeBlock (block_at p order l))
            (sym (kept_block ∙ stored))
            (framed p head rest order long ok whole);
        valid = sym (same_content q p order shown block' (Ok content) kept
            (same ∙ sym kept_block) is);
      },
      moved ∙ ap (λ (x : Position). after_block (block_at x order block) content) kept
          ∙ ap (λ (l : List ℕ). after_block (block_at p order l) content) (sym kept_block),
    )

-- A content that is not a packet.
pub no_packet : (content : Content) → ((slot : PacketSlot) → content ≡ Captured slot → ⊥)
    → IsNoPacket content
no_packet (Captured slot) other = other slot refl
no_packet SectionHeader other = tt
no_packet (Described i) other = tt
no_packet Skipped other = tt

-- If there is no block, the clause of the end of the input holds.
pub none_found : {A : Type 0} (found : Option A) (P : Type 0) (Q : A → Type 0)
    → ((x : A) → found ≡ Some x → ⊥) → MatchOption found P Q → P
none_found None P Q other h = h
none_found (Some x) P Q other h = absurd (other x refl)
