-- Bytes begin with at most one header, and a header is determined by the bytes that it serializes
-- to.
use Rattle.std.proofs.lemmas.Grind.{common_steps}
use Rattle.std.proofs.Common.{◌≡◌, ◌↔◌, ℕ, ◌+◌, ◌-◌, ◌≤◌, ◌⊎◌, inl, inr, List, [], ◌++◌, length}
use Rattle.std.proofs.Common.{take, drop, slice_index, refl, sym, ap, ◌∙◌, arith}
use Rattle.netlink_core.specs.laws.Prefix.{length_field_cases}
use Rattle.std.proofs.lemmas.List.{take-append-drop, take_at, length-append}
use Rattle.std.proofs.lemmas.List.{length-take, length-drop, drop-append-le}
use Rattle.byteorder.specs.Numbers.{little_from-append}
use Rattle.byteorder.specs.Endian.{little_number}
use Rattle.netlink_core.specs.declared.header.NetlinkHeader.{NetlinkHeader}
use Rattle.netlink_core.specs.declared.error.DecodeError.{DecodeError}
use Rattle.netlink_core.specs.declared.error.DecodeError.TheVariants as errors
use Rattle.netlink_core.specs.Bytes.{IsBytes}
use Rattle.netlink_core.specs.Table.{FitFields, values_of}
use Rattle.netlink_core.specs.Header.{header_fields, header_of_numbers, header_values}
use Rattle.netlink_core.specs.Header.{header_bytes}
use Rattle.netlink_core.specs.Header.{HasHeader, IsMessageError, message_payload}
use Rattle.netlink_core.proofs.Numbers.{masked-all}
use Rattle.netlink_core.proofs.TableLaws.{AreConsecutiveFields, consecutive_from_test}
use Rattle.netlink_core.proofs.TableLaws.{values-bytes_of, values-fit, values_and_bits}

pub AreBytes-take : (n : ℕ) (bytes : List ℕ) → IsBytes bytes → IsBytes (take n bytes)
AreBytes-take n bytes fits =
    grind (arith, common_steps, take-append-drop)

-- the five fields are consecutive, and have 16 bytes
header_table : AreConsecutiveFields 0 header_fields 16
header_table = consecutive_from_test 0 header_fields 16 refl

same_header : (h k : NetlinkHeader) → header_values h ≡ header_values k → h ≡ k
same_header h k e = ap header_of_numbers e

-- bytes begin with a header or have a framing error
pub header_or_error : (bytes : List ℕ) → IsBytes bytes → ((h : NetlinkHeader) × HasHeader bytes h)
    ⊎ ((e : DecodeError) × IsMessageError bytes e)
header_or_error bytes fits = elim (length_field_cases 16 (length bytes) (little_number 4 bytes)) [
  | inl cut ↦ inr (errors.EnvelopeCut (length bytes), (refl, cut))
  | inr (inl under) ↦ inr (
    errors.EnvelopeLengthUnder16 (little_number 4 bytes),
    (refl, under.0, under.1),
  )
  | inr (inr (inl past)) ↦ inr (
    errors.EnvelopeLengthPast (little_number 4 bytes) (length bytes),
    (refl, refl, past.0, past.1, past.2),
  )
  | inr (inr (inr there)) ↦ inl (
    header_of_numbers (values_of header_fields bytes),
    (refl, values-fit header_fields bytes fits, there.0, there.1),
  )
]

-- the length field and the type field of bytes that begin with a header
pub header_length : (bytes : List ℕ) (h : NetlinkHeader) → HasHeader bytes h
    → little_number 4 bytes ≡ h.length
header_length bytes h head = ap (λ (vs : List ℕ). slice_index vs 0) head.0

pub header_type : (bytes : List ℕ) (h : NetlinkHeader) → HasHeader bytes h
    → little_number 2 (drop 4 bytes) ≡ h.message_type
header_type bytes h head = ap (λ (vs : List ℕ). slice_index vs 1) head.0

-- bytes begin with at most one header
pub one_header : (bytes : List ℕ) (h k : NetlinkHeader) → HasHeader bytes h → HasHeader bytes k
    → h ≡ k
one_header bytes h k head other = same_header h k (sym head.0 ∙ other.0)

-- headers are equal if and only if the first sixteen bytes are
pub same_leading_header : (b c : List ℕ) (h k : NetlinkHeader) → IsBytes b → IsBytes c
    → HasHeader b h
    → HasHeader c k → ((h ≡ k) ↔ (take 16 b ≡ take 16 c))
same_leading_header b c h k tb tc head other =
    let long : 16 ≤ length b = omega arith in
    let also : 16 ≤ length c = omega arith in
    let left = masked-all 16 b tb in
    let right = masked-all 16 c tc in
    let same = values_and_bits 0 header_fields 16 b c header_table tb tc long also in (
      λ e. let bits = same.0 cc in cc,
      λ e. let values = same.1 cc in same_header h k cc,
    )

-- a number among the first bytes does not depend on the bytes after them
number_before_rest : (width from : ℕ) (xs ys : List ℕ) → from + width ≤ length xs
    → little_number width (drop from (xs ++ ys)) ≡ little_number width (drop from xs)
number_before_rest width from xs ys within = rw (drop-append-le from xs ys (omega arith))
    (little_from-append width (drop from xs) ys (omega (arith, length-drop from xs)))

-- the first message of the bytes has the header of the bytes
pub message_has_header : (bytes message : List ℕ) (h : NetlinkHeader) → HasHeader bytes h
    → message ≡ take h.length bytes → HasHeader message h × (h.length ≡ length message)
message_has_header bytes message h head is =
    let tail : List ℕ = drop h.length bytes in
    let size : length message ≡ h.length = rw is (omega (arith, length-take h.length bytes)) in
    let parts : bytes ≡ message ++ tail = cc (take-append-drop h.length bytes) in
    let long : 16 ≤ length message = omega arith in
    let whole : values_of header_fields (message ++ tail) ≡ header_values h = rw parts at head.0 in
    let same : values_of header_fields message ≡ header_values h = cc (
      number_before_rest 4 0 message tail (omega arith),
      number_before_rest 2 4 message tail (omega arith),
      number_before_rest 2 6 message tail (omega arith),
      number_before_rest 4 8 message tail (omega arith),
      number_before_rest 4 12 message tail (omega arith),
    ) in
    ((same, head.1, head.2, omega arith), sym size)

-- the payload of a message is all of its bytes after the header
pub payload_after_header : (message : List ℕ) (h : NetlinkHeader) → h.length ≡ length message
    → message_payload message h ≡ take (length message - 16) (drop 16 message)
payload_after_header message h size = ap (λ (n : ℕ). take (n - 16) (drop 16 message)) size

-- the bytes that a header serializes to have its numbers in their fields, whatever follows
header_values_round_trip : (h : NetlinkHeader) (rest : List ℕ)
    → FitFields header_fields (header_values h)
    → values_of header_fields (header_bytes h ++ rest) ≡ header_values h
header_values_round_trip h rest in_range =
    grind (arith, values-bytes_of, header_table)

-- headers in range are equal if they serialize to the same bytes
pub equal_by_header_bytes : (h k : NetlinkHeader) → FitFields header_fields (header_values h)
    → FitFields header_fields (header_values k) → header_bytes h ≡ header_bytes k → h ≡ k
equal_by_header_bytes h k th tk e =
    same_header h k (cc (header_values_round_trip h [] th, header_values_round_trip k [] tk))

-- bytes of a header, its payload and more begin with this header, and have this payload
pub begins_with_header : (h : NetlinkHeader) (payload rest : List ℕ)
    → FitFields header_fields (header_values h) → h.length ≡ 16 + length payload
    → HasHeader (header_bytes h ++ (payload ++ rest)) h
    × (message_payload (header_bytes h ++ (payload ++ rest)) h ≡ payload)
begins_with_header h payload rest in_range size =
    grind (
      arith,
      header_values_round_trip h (payload ++ rest) in_range,
      length-append payload rest,
      take_at payload rest (h.length - 16),
    )
