use Rattle.std.proofs.Common.{◌≡◌, ℕ, ◌+◌, ◌-◌, ◌≤◌, List, ◌++◌, rules, arith, length, take}
use Rattle.std.proofs.Common.{slice_range, sym, ap, ◌∙◌, subst, le_refl, drop_at, length-take-le}
use Rattle.std.proofs.Common.{append-nil}
use Rattle.std.proofs.lemmas.Slice.{take-put_mid_below}
use Rattle.std.specs.Io.KnownBytes.{Consumes}
use Rattle.std.proofs.KnownBytes.{Consumes-trans}
use borrow.Rule.Slice.PartMut.{put_mid, post_of}
use lib.Seq.{take-add, take-append-le}
use Rattle.netlink_captures.proofs.captures.fill.Goals as goal

-- A prefix that does not change, followed by the range after it, is a longer prefix.
take_split : (a b : ℕ) (old new : List ℕ) → a ≤ b → take a new ≡ take a old → take a old
    ++ slice_range new a b ≡ take b new
take_split a b old new h front =
    let same : a + (b - a) ≡ b = omega arith in
    ap (λ l. l ++ slice_range new a b) (sym front) ∙ sym (take-add a (b - a) new)
    ∙ ap (λ n. take n new) same

slice_range-put_mid : (a k n : ℕ) (xs ys : List ℕ) → a ≤ length xs → n ≤ length ys
    → slice_range (put_mid a k xs ys) a (a + n) ≡ take n ys
slice_range-put_mid a k n xs ys within fits =
    let same : (a + n) - a ≡ n = omega arith in
    let after = post_of a k xs in
    ap (take ((a + n) - a)) (drop_at (take a xs) (ys ++ after) a (length-take-le a xs within))
    ∙ ap (λ m. take m (ys ++ after)) same ∙ take-append-le n ys after fits

pub reads-preserved : goal.reads-preserved
reads-preserved g c =
    let from = c.reads.filled_len in
    let room = length c.reads.bytes - from in
    let within = c.reads.invariant.1 in
    let part = slice_range-put_mid from room c.in_ok-count.count c.reads.bytes c.read_some.new.bytes
    within c.in_ok-count.ensures.bound.0 in
    let joined = take_split from (from + c.in_ok-count.count) c.reads.bytes
    (put_mid from room c.reads.bytes c.read_some.new.bytes) (omega arith)
    (take-put_mid_below _ _ _ _ _ (le_refl _) within) in (
      search rules,
      search rules,
      subst (Consumes _ _)
          (ap (λ l. take from c.reads.bytes ++ l) (sym part) ∙ joined)
          (Consumes-trans _ _ _ _ _ c.reads.invariant.2 c.in_ok-count.ensures.bytes.0),
    )

pub returns-in-0-clause-stopped : goal.returns-in-0-clause-stopped
returns-in-0-clause-stopped g c =
    let got = c.in_ok-count.ensures.bytes in
    let none = subst (λ n. Consumes (g.R.Source.left c.reads.input)
    (g.R.Source.left c.read_some.new.self) (take n c.read_some.new.bytes))
    c.in-0.is got.0 in (
      take c.reads.filled_len c.reads.bytes,
      omega (arith, length-take-le c.reads.filled_len c.reads.bytes c.reads.invariant.1),
      subst (Consumes _ _) (append-nil (take c.reads.filled_len c.reads.bytes))
          (Consumes-trans _ _ _ _ _ c.reads.invariant.2 none),
      got.1 c.in-0.is (omega arith),
    )
