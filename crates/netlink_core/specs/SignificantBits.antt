-- The significant bits of a record's bytes: a mask for each byte, below 256. A bit that is 1 in the
-- mask is significant, a bit that is 0 is ignored.
use Rattle.std.specs.Prelude.{◌≡◌, ℕ, List, [], ◌∷◌, bit_and, replicate}

-- `significant count`: the masks of `count` bytes of which all bits are significant
abbrev pub significant : ℕ → List ℕ
significant count = replicate count 255

-- `ignored count`: the masks of `count` bytes of which all bits are ignored
abbrev pub ignored : ℕ → List ℕ
ignored count = replicate count 0

-- `masked masks bytes`: the bytes without the bits that are 0 in their masks. The result ends with
-- the shorter of both lists.
abbrev pub masked : List ℕ → List ℕ → List ℕ
masked (mask ∷ masks) (byte ∷ bytes) = bit_and byte mask ∷ masked masks bytes
masked _ _ = []

-- `EqualUnder masks b c`: the byte strings `b` and `c` have the same significant bits, by the
-- masks. Bytes after those that have a mask are not considered. A string with fewer bytes than
-- there are masks is equal only to strings of its length.
abbrev pub EqualUnder : List ℕ → List ℕ → List ℕ → Type 0
EqualUnder masks b c = masked masks b ≡ masked masks c
