-- Values of single attributes: numbers, and steps over a value that is an array.
use Rattle.std.specs.Prelude.{◌≡◌, ◌<◌, ◌≤◌, ℕ, ◌+◌, ◌⊎◌, List, length, None}
use Rattle.netlink_core.specs.declared.error.DecodeError.{DecodeError}
use Rattle.netlink_core.specs.declared.error.DecodeError.TheVariants.{WrongLength}
use Rattle.sockdiag_c.specs.Walks.{IterationEnds, IterationFails, IterationStep, bytes_before_step}
use Rattle.sockdiag_c.specs.declared.results.TheConstants.{ITEM}

-- `IsNumberWidth n`: numbers of `n` bytes are read
abbrev pub IsNumberWidth : ℕ → Type 0
IsNumberWidth n = (n ≡ 1) ⊎ ((n ≡ 2) ⊎ ((n ≡ 4) ⊎ (n ≡ 8)))

-- `IsIncompleteItem size bytes e`: the bytes are fewer than the `size` bytes of an item, which is
-- the error `e`
abbrev pub IsIncompleteItem : ℕ → List ℕ → DecodeError → Type 0
IsIncompleteItem size bytes e = (length bytes < size) × (e ≡ WrongLength None (length bytes) size)

-- `StepsOverItem size parse step`: the step of an iteration over items of `size` bytes;
-- `parse bytes` is the item at the start of the bytes. One of:
-- - No bytes are left, and the return value is END (`IterationEnds`).
-- - The item at the cursor is stored, the cursor is advanced by `size`, and the return value is
--   ITEM.
-- - Fewer than `size` bytes are left, and the return value is the code of the error
--   (`IterationFails`).
abbrev pub StepsOverItem : {T : Type 0} → ℕ → (List ℕ → T) → IterationStep T → Type 0
StepsOverItem size parse step =
    IterationEnds step
    ⊎ (((step.returned ≡ ITEM) × (size ≤ length (bytes_before_step step))
    × (step.new_item ≡ parse (bytes_before_step step))
    × (step.new_cursor ≡ record { offset = step.old_cursor.offset + size }))
    ⊎ IterationFails (IsIncompleteItem size) step)
