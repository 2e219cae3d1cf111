use Rattle.std.proofs.Common.{[], ◌∷◌, ◌++◌, ap, arith, inl, inr, refl, subst, sym}
use Rattle.std.specs.List.{concat}
use Rattle.std.specs.Io.KnownBytes.{Consumes}
use Rattle.std.proofs.KnownBytes.{Consumes-kept, Consumes-trans}
use Rattle.std.proofs.lemmas.Result.{err_from_is_err_and}
use Rattle.netlink_captures.specs.Pcapng.{AreSkipped, Position, block_at, position_of}
use Rattle.netlink_captures.proofs.PcapngLemmas.{concat_push, length_fits, no_packet, none_found}
use Rattle.netlink_captures.proofs.PcapngLemmas.{skipped_push}
use Rattle.netlink_captures.proofs.pcapng.PcapngReader.read_packet.Goals as goal

pub returns-in_err-content-clause-stopped : goal.returns-in_err-content-clause-stopped
returns-in_err-content-clause-stopped g c =
    let p = err_from_is_err_and c.from_residual.result c.from_residual.ensures.1 in
    let (blocks, skipped, read) = c.steps.invariant in
    let (part, more, stop) = c.in_err-content.ensures.stopped in
    rw (p.1, p.2) (
      concat blocks ++ part,
      Consumes-trans _ _ _ _ _ read more,
      record {
        blocks = blocks;
        position' = position_of c.steps.self;
        part = part;
        skipped = skipped;
        parts = refl;
        stopped = stop;
      },
    )

pub returns-in_err-copy_packet-clause-stopped : goal.returns-in_err-copy_packet-clause-stopped
returns-in_err-copy_packet-clause-stopped g c =
    let p = err_from_is_err_and c.from_residual-in_err-copy_packet.result
    c.from_residual-in_err-copy_packet.ensures.1 in
    let (blocks, skipped, read) = c.steps.invariant in
    let (more, moves) = rw c.in-Some.is at c.in_ok-content.ensures.read in
    rw p.1 (
      concat blocks ++ c.next.new.self.block.items,
      Consumes-trans _ _ _ _ _ read more,
      record {
        blocks = blocks;
        position' = position_of c.steps.self;
        part = c.next.new.self.block.items;
        skipped = skipped;
        parts = refl;
        stopped = inl (inr (inl (moves.1.is_whole.long, (moves.0, moves.1.is_whole.ordered), p.2)));
      },
    )

pub returns-in-Captured-clause-read : goal.returns-in-Captured-clause-read
returns-in-Captured-clause-read g c =
    let (blocks, skipped, read) = c.steps.invariant in
    let (more, moves) = rw (c.in-Some.is, c.in-Captured.is) at c.in_ok-content.ensures.read in (
      concat blocks ++ c.next.new.self.block.items,
      Consumes-trans _ _ _ _ _ read more,
      record {
        blocks = blocks;
        block = block_at (position_of c.steps.self) moves.0 c.next.new.self.block.items;
        slot = c.in-Captured.slot;
        skipped = skipped;
        found = moves.1;
        parts = refl;
        captured = c.in_ok-copy_packet.ensures;
        after = moves.2;
      },
    )

pub steps-smaller : goal.steps-smaller
steps-smaller g c =
    let (more, moves) = rw c.in-Some.is at c.in_ok-content.ensures.read in
    omega (
      arith,
      ap (λ (p : Position). p.offset) moves.2,
      moves.1.is_whole.long,
      moves.1.is_whole.whole,
      length_fits (position_of c.steps.self) c.next.new.self.block.items moves.0
          moves.1.is_whole.ordered,
    )

pub steps-preserved : goal.steps-preserved
steps-preserved g c =
    let (blocks, skipped, read) = c.steps.invariant in
    let (more, moves) = rw c.in-Some.is at c.in_ok-content.ensures.read in
    let block = c.next.new.self.block.items in
    let other = no_packet c.in-Some.content c.in_default-content.not-Captured in
    let pushed = skipped_push blocks (position_of c.args.self.now) (position_of c.steps.self) block
    moves.0 c.in-Some.content skipped moves.1 other in (
      blocks ++ block ∷ [],
      subst (λ (q : Position). AreSkipped (position_of c.args.self.now) (blocks ++ block ∷ []) q)
          (sym moves.2) pushed,
      subst (Consumes _ _) (sym (concat_push blocks block))
          (Consumes-trans _ _ _ _ _ read more),
    )

pub returns-clause-read : goal.returns-clause-read
returns-clause-read g c =
    let (blocks, skipped, read) = c.steps.invariant in
    let end = none_found _ _ _ c.in_default.not-Some c.in_ok-content.ensures.read in (
      concat blocks,
      Consumes-kept _ _ _ _ read end.1,
      (
        end.0,
        (
          blocks,
          subst (λ (q : Position). AreSkipped (position_of c.args.self.now) blocks q) (sym end.2)
              skipped,
          refl,
        ),
      ),
    )
