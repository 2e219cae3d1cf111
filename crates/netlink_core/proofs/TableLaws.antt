-- Properties of tables of fields, by induction on the fields: serialized numbers are parsed again,
-- and two byte strings have the same numbers if and only if they have the same significant bits.
use Rattle.std.proofs.lemmas.Grind.{common_steps}
use Rattle.std.proofs.Common.{◌≡◌, ◌↔◌, ℕ, zero, suc, ◌+◌, ◌<◌, ◌≤◌, Bool, ◌&&◌, IsTrue, List, []}
use Rattle.std.proofs.Common.{◌∷◌, ◌++◌, length, drop, replicate, slice_index, bit_and, refl, sym}
use Rattle.std.proofs.Common.{ap, ◌∙◌, arith, append_assoc, eqb, length-drop, add-zero, ◌^◌}
use Rattle.std.specs.Prelude.{⊤, nat_lt}
use Rattle.std.proofs.lemmas.List.{drop_at, drop-drop, length-replicate, get_or-drop, take_all}
use Rattle.std.proofs.lemmas.Nat.{and_le_l, and_assoc}
use Rattle.std.proofs.lemmas.Bool.Decides.{nat_tests}
use Rattle.std.proofs.lemmas.Bool.{eqb-true}
use Rattle.std.specs.Int.Bits.{and_self}
use Rattle.std.specs.List.{list_all}
use Rattle.byteorder.specs.Numbers.{length-bytes_low_first}
use Rattle.byteorder.specs.Endian.{little_number, little_bytes, big_bytes}
use Rattle.netlink_core.specs.Table.{Field, byte, number, network, flags, unread}
use Rattle.netlink_core.specs.Table.{values_of, bytes_of}
use Rattle.netlink_core.proofs.Numbers.{Order, little_endian, big_endian, number_in, bytes_in}
use Rattle.netlink_core.specs.Table.{FitFields, HaveDefinedFlags}
use Rattle.netlink_core.specs.laws.LayoutObligations.{fields_are_consecutive, offset_of, width_of}
use Rattle.netlink_core.specs.laws.LayoutObligations.{ignored_content_is_bytes}
use Rattle.netlink_core.specs.Bytes.{IsBytes}
use Rattle.netlink_core.specs.SignificantBits.{masked}
use Rattle.netlink_core.specs.laws.Prefix.{equal_parts}
use Rattle.netlink_core.specs.laws.Byte.{IsBytes-append}
use Rattle.netlink_core.proofs.Numbers.{number-same, number-take, number-fits, number-reads_back}
use Rattle.netlink_core.proofs.Numbers.{length-bytes_in, bytes_in-bytes}
use Rattle.netlink_core.proofs.Numbers.{masked-all, masked-none}
use Rattle.netlink_core.proofs.Numbers.{length-masked, masked-bytes, and_number}

and_is_true : (a b : Bool) → IsTrue (a && b) → IsTrue a × IsTrue b
and_is_true a b h =
    grind arith

-- what the serializer writes to an ignored field is bytes
abbrev HasBytesAsIgnoredContent : Field → Type 0
HasBytesAsIgnoredContent (unread offset written) = IsBytes written
HasBytesAsIgnoredContent _ = ⊤

-- the fields are consecutive from the offset `from` to the offset `end`, and what the serializer
-- writes to ignored fields is bytes
abbrev pub AreConsecutiveFields : ℕ → List Field → ℕ → Type 0
AreConsecutiveFields from [] end = from ≡ end
AreConsecutiveFields from (field ∷ fields) end =
    (offset_of field ≡ from) × HasBytesAsIgnoredContent field
    × AreConsecutiveFields (from + width_of field) fields end

bytes_from_test : (bytes : List ℕ) (i : ℕ) → IsTrue (list_all (λ one. nat_lt one 256) bytes)
    → slice_index bytes i < 256
bytes_from_test [] i h = omega arith
bytes_from_test (first ∷ bytes) zero h =
    grind (arith, nat_tests, and_is_true)
bytes_from_test (first ∷ bytes) (suc i) h =
    grind (arith, nat_tests, and_is_true, bytes_from_test bytes i)

is_bytes : (field : Field) → IsTrue (ignored_content_is_bytes field)
    → HasBytesAsIgnoredContent field
is_bytes field h =
    grind (arith, bytes_from_test)

-- a table that passes the test `fields_are_consecutive` has this property
pub consecutive_from_test : (from : ℕ) (fields : List Field) (end : ℕ)
    → IsTrue (fields_are_consecutive from fields end)
    → AreConsecutiveFields from fields end
consecutive_from_test from [] end h = eqb-true from end h
consecutive_from_test from (field ∷ fields) end h =
    grind (
      arith,
      and_is_true (eqb (offset_of field) from && ignored_content_is_bytes field),
      eqb (offset_of field) from,
      offset_of field,
      ignored_content_is_bytes field,
      and_is_true (eqb (offset_of field) from),
      eqb-true (offset_of field) from,
      is_bytes field,
      consecutive_from_test (from + width_of field) fields end,
      width_of field,
    )

-- a table ends at its start or later
ends-after : (from : ℕ) (fields : List Field) (end : ℕ) → AreConsecutiveFields from fields end
    → from ≤ end
ends-after from [] end h = omega arith
ends-after from (field ∷ fields) end h =
    grind (arith, ends-after (from + width_of field) fields end h.2, width_of field)

-- ---- lists

pub AreBytes-drop : (n : ℕ) (bytes : List ℕ) → IsBytes bytes → IsBytes (drop n bytes)
AreBytes-drop n bytes h = λ i. rw (get_or-drop n bytes i 0) (h (n + i))

-- concatenated masks apply to consecutive bytes
masked-append : (ms ns xs : List ℕ) → length ms ≤ length xs
    → masked (ms ++ ns) xs ≡ masked ms xs ++ masked ns (drop (length ms) xs)
masked-append (m ∷ ms) ns (x ∷ xs) h =
    grind (arith, masked-append ms ns xs)
masked-append ms ns xs h = grind arith

-- ---- parsing serialized numbers

-- numbers that fit their fields serialize to bytes
pub bytes_of-bytes : (from : ℕ) (fields : List Field) (end : ℕ) (values : List ℕ)
    → AreConsecutiveFields from fields end → FitFields fields values
    → IsBytes (bytes_of fields values)
bytes_of-bytes from [] end values t f = λ k. omega arith
bytes_of-bytes from (unread offset written ∷ fields) end values t f =
    grind (arith, common_steps, bytes_of-bytes (from + length written) fields end values t.2 f)
bytes_of-bytes from (byte offset ∷ fields) end (value ∷ values) t f =
    grind (arith, bytes_of-bytes (from + 1) fields end values t.2 f.1)
bytes_of-bytes from (number offset width ∷ fields) end (value ∷ values) t f =
    IsBytes-append (little_bytes width value) _ (bytes_in-bytes little_endian width value)
    (bytes_of-bytes (from + width) fields end values t.2 f.1)
bytes_of-bytes from (network offset width ∷ fields) end (value ∷ values) t f =
    IsBytes-append (big_bytes width value) _ (bytes_in-bytes big_endian width value)
    (bytes_of-bytes (from + width) fields end values t.2 f.1)
bytes_of-bytes from (flags offset width mask ∷ fields) end (value ∷ values) t f =
    IsBytes-append (little_bytes width value) _ (bytes_in-bytes little_endian width value)
    (bytes_of-bytes (from + width) fields end values t.2 f.1)
bytes_of-bytes from fields end values t f = grind arith

-- the bytes after the first part
after_piece : (from : ℕ) (bytes piece tail rest : List ℕ) → drop from bytes
    ≡ (piece ++ tail) ++ rest → drop (from + length piece) bytes ≡ tail ++ rest
after_piece from bytes piece tail rest e =
    grind (
      arith,
      drop-drop (length piece) from bytes,
      append_assoc piece tail rest,
      drop_at piece (tail ++ rest) (length piece),
    )

-- the number at a position, and the bytes after it
number_and_rest : (order : Order) (width from value : ℕ) (bytes tail rest : List ℕ)
    → value < 256 ^ width → drop from bytes ≡ (bytes_in order width value ++ tail) ++ rest
    → (number_in order width (drop from bytes) ≡ value)
    × (drop (from + width) bytes ≡ tail ++ rest)
number_and_rest order width from value bytes tail rest fits e =
    grind (
      arith,
      append_assoc,
      number-reads_back order width value (tail ++ rest),
      length-bytes_in,
      after_piece from bytes,
    )

-- the bytes that numbers serialize to have these numbers in their fields
pub values-bytes_of : (from : ℕ) (fields : List Field) (end : ℕ) (values bytes rest : List ℕ)
    → AreConsecutiveFields from fields end → FitFields fields values
    → HaveDefinedFlags fields values
    → drop from bytes ≡ bytes_of fields values ++ rest → values_of fields bytes ≡ values
values-bytes_of from (unread offset written ∷ fields) end values bytes rest t f d e =
    grind (
      arith,
      values-bytes_of (from + length written) fields end values bytes rest t.2 f d
          (after_piece from bytes written (bytes_of fields values) rest e),
      after_piece from bytes written (bytes_of fields values) rest e,
    )
values-bytes_of from (byte offset ∷ fields) end (value ∷ values) bytes rest t f d e =
    grind (
      arith,
      common_steps,
      get_or-drop,
      add-zero,
      values-bytes_of (from + 1) fields end values bytes rest t.2 f.1 d (after_piece from bytes
          (value ∷ []) (bytes_of fields values) rest e),
      after_piece,
    )
values-bytes_of from (number offset width ∷ fields) end (value ∷ values) bytes rest t f d e =
    grind (
      arith,
      number_and_rest little_endian width from value bytes (bytes_of fields values) rest f.0 e,
      values-bytes_of (from + width) fields end values bytes rest t.2 f.1 d,
    )
values-bytes_of from (network offset width ∷ fields) end (value ∷ values) bytes rest t f d e =
    grind (
      arith,
      number_and_rest big_endian width from value bytes (bytes_of fields values) rest f.0 e,
      values-bytes_of (from + width) fields end values bytes rest t.2 f.1 d,
    )
values-bytes_of from (flags offset width mask ∷ fields) end (value ∷ values) bytes rest t f d e =
    grind (
      arith,
      number_and_rest little_endian width from value bytes
          (bytes_of fields values) rest f.0 e,
      values-bytes_of (from + width) fields end values bytes rest t.2 f.1 d.1,
    )
values-bytes_of from fields end values bytes rest t f d e = grind arith

-- parsed numbers fit their fields
pub values-fit : (fields : List Field) (bytes : List ℕ) → IsBytes bytes
    → FitFields fields (values_of fields bytes)
values-fit [] bytes h = tt
values-fit (byte offset ∷ fields) bytes h = (h offset, values-fit fields bytes h)
values-fit (number offset width ∷ fields) bytes h =
    (number-fits little_endian width _ (AreBytes-drop offset bytes h), values-fit fields bytes h)
values-fit (network offset width ∷ fields) bytes h =
    (number-fits big_endian width _ (AreBytes-drop offset bytes h), values-fit fields bytes h)
values-fit (flags offset width mask ∷ fields) bytes h =
    grind (
      arith,
      number-fits little_endian width (drop offset bytes)
          (AreBytes-drop offset bytes h),
      AreBytes-drop offset bytes h,
      and_le_l (little_number width (drop offset bytes)) mask,
      values-fit fields bytes h,
    )
values-fit (unread offset written ∷ fields) bytes h = values-fit fields bytes h

-- parsed flags are defined
pub values-defined : (fields : List Field) (bytes : List ℕ)
    → HaveDefinedFlags fields (values_of fields bytes)
values-defined [] bytes = tt
values-defined (field ∷ fields) bytes =
    grind (arith, and_assoc, and_self, values-defined fields bytes)

-- the number in one field; none if the field is ignored
abbrev number_of_field : Field → List ℕ → List ℕ
number_of_field field bytes = values_of (field ∷ []) bytes

values-cons : (field : Field) (fields : List Field) (b : List ℕ)
    → values_of (field ∷ fields) b ≡ number_of_field field b ++ values_of fields b
values-cons field fields b = grind arith

-- ---- equal numbers and equal significant bits

-- the masks of the fields: all bits of a number, the defined bits of flags, no bit of an ignored
-- field
abbrev pub significant_masks : List Field → List ℕ
significant_masks [] = []
significant_masks (byte offset ∷ fields) = 255 ∷ significant_masks fields
significant_masks (number offset width ∷ fields) = replicate width 255 ++ significant_masks fields
significant_masks (network offset width ∷ fields) = replicate width 255 ++ significant_masks fields
significant_masks (flags offset width mask ∷ fields) =
    little_bytes width mask ++ significant_masks fields
significant_masks (unread offset written ∷ fields) =
    replicate (length written) 0 ++ significant_masks fields

-- the masks of one field
abbrev significant_masks_of_field : Field → List ℕ
significant_masks_of_field (byte offset) = replicate 1 255
significant_masks_of_field (number offset width) = replicate width 255
significant_masks_of_field (network offset width) = replicate width 255
significant_masks_of_field (flags offset width mask) = little_bytes width mask
significant_masks_of_field (unread offset written) = replicate (length written) 0

significant_masks-cons : (field : Field) (fields : List Field)
    → significant_masks (field ∷ fields)
    ≡ significant_masks_of_field field ++ significant_masks fields
significant_masks-cons field fields = grind arith

length-value : (field : Field) (b c : List ℕ) → length (number_of_field field b)
    ≡ length (number_of_field field c)
length-value field b c = grind arith

length-significant_masks : (field : Field)
    → length (significant_masks_of_field field) ≡ width_of field
length-significant_masks field =
    grind (arith, length-replicate, length-bytes_low_first)

-- numbers are equal if and only if their bytes are
number_bits : (order : Order) (width : ℕ) (xs ys : List ℕ) → IsBytes xs → IsBytes ys
    → width ≤ length xs → width ≤ length ys → ((number_in order width xs ≡ number_in order width ys)
    ↔ (masked (replicate width 255) xs ≡ masked (replicate width 255) ys))
number_bits order width xs ys hx hy lx ly =
    grind (
      arith,
      masked-all width xs hx,
      masked-all width ys hy,
      number-same order width xs ys hx hy lx ly,
      number-take order width width xs,
      number-take order width width ys,
    )

-- flags are equal if and only if their defined bits are
flag_bits : (width mask : ℕ) (xs ys : List ℕ) → IsBytes xs → IsBytes ys → width ≤ length xs
    → width ≤ length ys → ((bit_and (little_number width xs) mask
    ≡ bit_and (little_number width ys) mask)
    ↔ (masked (little_bytes width mask) xs ≡ masked (little_bytes width mask) ys))
flag_bits width mask xs ys hx hy lx ly =
    let ms : List ℕ = little_bytes width mask in
    let own : length ms ≡ width = length-bytes_in little_endian width mask in
    let long_x : length (masked ms xs) ≡ width = length-masked ms xs (omega arith) ∙ own in
    let long_y : length (masked ms ys) ≡ width = length-masked ms ys (omega arith) ∙ own in
    rw (and_number width mask xs hx lx, and_number width mask ys hy ly) (
      λ e. sym (take_all width (masked ms xs) (omega arith))
          ∙ number-same little_endian width (masked ms xs) (masked ms ys)
          (λ k. masked-bytes ms xs k hx) (λ k. masked-bytes ms ys k hy) (omega arith)
          (omega arith) e ∙ take_all width (masked ms ys) (omega arith),
      λ e. ap (λ (b : List ℕ). little_number width b) e,
    )

-- a byte is a number of one byte
byte_is : (offset : ℕ) (b : List ℕ) → slice_index b offset
    ≡ number_in little_endian 1 (drop offset b)
byte_is offset b = rw (add-zero, get_or-drop, add-zero) refl

one_number_iff : {P : Type 0} (x y : ℕ) → ((x ≡ y) ↔ P) → ((x ∷ [] ≡ y ∷ []) ↔ P)
one_number_iff x y h =
    grind (arith, h)

-- the numbers in one field are equal if and only if its significant bits are
field_bits : (field : Field) (b c xs ys : List ℕ) → drop (offset_of field) b ≡ xs
    → drop (offset_of field) c ≡ ys → IsBytes xs → IsBytes ys → width_of field ≤ length xs
    → width_of field ≤ length ys → ((number_of_field field b ≡ number_of_field field c)
    ↔ (masked (significant_masks_of_field field) xs ≡ masked (significant_masks_of_field field) ys))
field_bits (byte offset) b c xs ys ex ey hx hy lx ly =
    grind (
      arith,
      one_number_iff,
      byte_is offset b,
      byte_is offset c,
      number_bits little_endian 1 xs ys hx hy lx ly,
    )
field_bits (number offset width) b c xs ys ex ey hx hy lx ly =
    grind (arith, one_number_iff, number_bits little_endian width xs ys hx hy lx ly)
field_bits (network offset width) b c xs ys ex ey hx hy lx ly =
    grind (arith, one_number_iff, number_bits big_endian width xs ys hx hy lx ly)
field_bits (flags offset width mask) b c xs ys ex ey hx hy lx ly =
    grind (arith, one_number_iff, flag_bits width mask xs ys hx hy lx ly)
field_bits (unread offset written) b c xs ys ex ey hx hy lx ly =
    grind (arith, masked-none (length written) xs lx, masked-none (length written) ys ly)

-- the masks of a first field and of the others apply to consecutive bytes
bits-cons : (field : Field) (fields : List Field) (from : ℕ) (b : List ℕ)
    → from + width_of field ≤ length b → (width_of field ≤ length (drop from b))
    × (masked (significant_masks (field ∷ fields)) (drop from b)
    ≡ masked (significant_masks_of_field field) (drop from b)
    ++ masked (significant_masks fields) (drop (from + width_of field) b))
bits-cons field fields from b h =
    grind (
      arith,
      length-significant_masks field,
      width_of field,
      length-drop from b,
      significant_masks-cons field fields,
      masked-append,
      drop-drop (width_of field) from b,
    )

both_parts : (a b r s p q u v : List ℕ) → length a ≡ length b → length p ≡ length q
    → ((a ≡ b) ↔ (p ≡ q)) → ((r ≡ s) ↔ (u ≡ v)) → ((a ++ r ≡ b ++ s) ↔ (p ++ u ≡ q ++ v))
both_parts a b r s p q u v l m here rest =
    grind (arith, equal_parts a b r s l, equal_parts p q u v m, here, rest)

-- the numbers in the fields are equal if and only if the significant bits are
pub values_and_bits : (from : ℕ) (fields : List Field) (end : ℕ) (b c : List ℕ)
    → AreConsecutiveFields from fields end → IsBytes b → IsBytes c → end ≤ length b → end ≤ length c
    → ((values_of fields b ≡ values_of fields c)
    ↔ (masked (significant_masks fields) (drop from b)
    ≡ masked (significant_masks fields) (drop from c)))
values_and_bits from [] end b c t hb hc lb lc = (λ e. refl, λ e. refl)
values_and_bits from (field ∷ fields) end b c t hb hc lb lc =
    grind (
      arith,
      ends-after (from + width_of field) fields end t.2,
      width_of field,
      length-significant_masks field,
      bits-cons field fields from b,
      bits-cons field fields from c,
      values-cons field fields b,
      values-cons field fields c,
      both_parts,
      length-value field b c,
      length-masked,
      field_bits field b c (drop from b) (drop from c),
      AreBytes-drop from b hb,
      AreBytes-drop from c hc,
      values_and_bits (from + width_of field) fields end b c t.2 hb hc lb lc,
    )
