-- One step of an iterator over parts of bytes.
use Rattle.std.specs.Prelude.{◌≡◌, ◌≢◌, ℕ, List, [], map, Option, Result, Ok, MatchOption}
use Rattle.std.specs.Prelude.{MatchResult}
use Rattle.netlink_core.specs.declared.error.DecodeError.{DecodeError}

-- `YieldsPart starts has_error left item later`: one call of `next` of an iterator returns `item`.
-- `left` are the bytes that the iterator has not read before the call, and `later` those after it.
-- One of three holds. The item is a part, with `starts left part later`: `left` starts with the
-- part, and `later` follows. Or the item is an error, with `has_error left error`; `left` is not
-- empty, and `later` is. Or the item is `None`, and both are empty.
abbrev pub YieldsPart : {I : Type 0} → (List ℕ → I → List ℕ → Type 0)
    → (List ℕ → DecodeError → Type 0)
    → List ℕ → Option (Result I DecodeError) → List ℕ → Type 0
YieldsPart starts has_error left item later = MatchOption item ((left ≡ []) × (later ≡ []))
    (λ part_or_error. MatchResult part_or_error (λ part. starts left part later)
    (λ e. (left ≢ []) × has_error left e × (later ≡ [])))

-- `items_without_errors yielded`: the items of an iterator that yields these parts and no error:
-- `Ok` of each part
abbrev pub items_without_errors : {I : Type 0} → List I → List (Result I DecodeError)
items_without_errors yielded = map (λ part. Ok part) yielded
