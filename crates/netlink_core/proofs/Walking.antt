-- One step of the iterator over attributes that have no framing error.
use Rattle.std.proofs.Common.{ℕ, ◌-◌, ◌≤◌, ◌<◌, List, length, take, drop, arith}
use Rattle.std.proofs.lemmas.List.{length-drop, take_rest}
use Rattle.byteorder.specs.Endian.{little_number}

-- the length field of the bytes that are left counts a header, and at most these bytes
pub length_field_at : (bytes : List ℕ) (offset : ℕ) → offset < length bytes
    → (0 < length (drop offset bytes) → 4 ≤ little_number 2 (drop offset bytes))
    → (0 < length (drop offset bytes)
    → little_number 2 (drop offset bytes) ≤ length (drop offset bytes))
    → (4 ≤ little_number 2 (take (length bytes - offset) (drop offset bytes)))
    × (little_number 2 (take (length bytes - offset) (drop offset bytes))
    ≤ length (take (length bytes - offset) (drop offset bytes)))
length_field_at bytes offset before low high =
    let some : 0 < length (drop offset bytes) = omega (arith, length-drop offset bytes) in
    rw (take_rest bytes offset) (low some, high some)
