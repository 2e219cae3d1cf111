use Rattle.std.proofs.Common.{◌≡◌, ◌∙◌, ◌+◌, ◌*◌, ◌^◌, ◌<◌, ℕ, ◌⊎◌, inl, inr, List, refl, sym}
use Rattle.std.proofs.Common.{ap, arith}
use Rattle.std.specs.Prelude.{slice_index}
use Rattle.netlink_captures.specs.Capture.{HasPcapMagic, IsFileHeader, IsFileHeaderError}
use Rattle.netlink_captures.specs.Capture.{IsPcapMagic, major_version, u32_at, unit_of}
use Rattle.netlink_captures.specs.Capture.{link_type_in}
use Rattle.netlink_captures.specs.declared.captures.ByteOrder.{ByteOrder}
use Rattle.netlink_captures.specs.declared.captures.ByteOrder.TheVariants.{BigEndian, LittleEndian}
use Rattle.netlink_captures.specs.declared.captures.CaptureError.{CaptureError}
use Rattle.netlink_captures.specs.declared.captures.CaptureError.TheVariants as errors
use Rattle.netlink_captures.specs.declared.captures.FileHeader.{FileHeader}
use Rattle.netlink_captures.proofs.laws.one_file_header.Goals as goal

-- the numbers are bytes
abbrev AreBytes : List ℕ → Type 0
AreBytes bytes = (index : ℕ) → slice_index bytes index < 256

-- the first byte of a magic number in big-endian byte order
first_of_big : (a b c d : ℕ) → b < 256 → c < 256 → d < 256
    → IsPcapMagic (a * 256 ^ 3 + (b * 256 ^ 2 + (c * 256 ^ 1 + (d * 256 ^ 0 + 0)))) → a ≡ 161
first_of_big a b c d below_b below_c below_d (inl is) = omega arith
first_of_big a b c d below_b below_c below_d (inr is) = omega arith

-- the first byte of one in little-endian byte order
first_of_little : (a b c d : ℕ) → a < 256
    → IsPcapMagic (a + 256 * (b + 256 * (c + 256 * (d + 256 * 0)))) → (a ≡ 212) ⊎ (a ≡ 77)
first_of_little a b c d below (inl is) = inl (omega arith)
first_of_little a b c d below (inr is) = inr (omega arith)

magic_of_one_order : (bytes : List ℕ) → AreBytes bytes → HasPcapMagic bytes BigEndian
    → HasPcapMagic bytes LittleEndian → ⊥
magic_of_one_order bytes in_range big little =
    let a = slice_index bytes 0 in
    let b = slice_index bytes 1 in
    let c = slice_index bytes 2 in
    let d = slice_index bytes 3 in
    let high : a ≡ 161 =
    first_of_big a b c d (in_range 1) (in_range 2) (in_range 3) big in
    elim (first_of_little a b c d (in_range 0) little) [
      | inl low ↦ omega (arith, high, low)
      | inr low ↦ omega (arith, high, low)
    ]

one_order : (bytes : List ℕ) (order other : ByteOrder) → AreBytes bytes
    → HasPcapMagic bytes order → HasPcapMagic bytes other → order ≡ other
one_order bytes BigEndian BigEndian in_range h k = refl
one_order bytes LittleEndian LittleEndian in_range h k = refl
one_order bytes BigEndian LittleEndian in_range h k =
    absurd (magic_of_one_order bytes in_range h k)
one_order bytes LittleEndian BigEndian in_range h k =
    absurd (magic_of_one_order bytes in_range k h)

pub returns-clause-one_value : goal.returns-clause-one_value
returns-clause-one_value c = λ bytes h other in_range is also.
    let same = one_order bytes h.order other.order in_range is.magic also.magic in
    let unit : h.unit ≡ other.unit = is.unit
    ∙ ap (λ (order : ByteOrder). unit_of (u32_at order 0 bytes)) same ∙ sym also.unit in
    λ i. record { order = same i; unit = unit i }

has_magic : (bytes : List ℕ) (order : ByteOrder) → HasPcapMagic bytes order
    → ¬ HasPcapMagic bytes BigEndian → ¬ HasPcapMagic bytes LittleEndian → ⊥
has_magic bytes BigEndian h no_big no_little = no_big h
has_magic bytes LittleEndian h no_big no_little = no_little h

header_or_error : (bytes : List ℕ) (h : FileHeader) (e : CaptureError) → AreBytes bytes
    → IsFileHeader bytes h → IsFileHeaderError bytes e → ⊥
header_or_error bytes h (errors.Compressed compression) in_range is error =
    has_magic bytes h.order is.magic error.1.0 error.1.1
header_or_error bytes h (errors.NoCapture magic) in_range is error =
    has_magic bytes h.order is.magic error.1.0 error.1.1
header_or_error bytes h (errors.OtherVersion version) in_range is (order, magic, found, other) =
    other (found ∙ ap (λ (o : ByteOrder). major_version o bytes)
    (one_order bytes order h.order in_range magic is.magic) ∙ is.version)
header_or_error bytes h (errors.OtherLinkType link_type) in_range is
    (order, magic, version, found, other) =
    other (found ∙ ap (λ (o : ByteOrder). link_type_in o bytes)
    (one_order bytes order h.order in_range magic is.magic) ∙ is.link_type)
header_or_error bytes h e in_range is error = absurd error

pub returns-clause-is_exclusive : goal.returns-clause-is_exclusive
returns-clause-is_exclusive c = header_or_error
