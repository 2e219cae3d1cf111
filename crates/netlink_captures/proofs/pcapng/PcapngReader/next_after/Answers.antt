use Rattle.std.proofs.Common.{◌∙◌, arith, ap, inl, length, length-append}
use Rattle.std.proofs.lemmas.Result.{err_from_is_err_and}
use Rattle.netlink_captures.specs.Pcapng.{Position, position_of}
use Rattle.netlink_captures.proofs.PcapngLemmas.{length_fits, moved_over, stop_at_content}
use Rattle.netlink_captures.proofs.PcapngLemmas.{stop_at_rest}
use Rattle.netlink_captures.proofs.pcapng.PcapngReader.next_after.Goals as goal

pub returns-in_err-order-clause-stopped : goal.returns-in_err-order-clause-stopped
returns-in_err-order-clause-stopped g c =
    let p = err_from_is_err_and c.from_residual.result c.from_residual.ensures.1 in
    let (part, read, stop) = c.in_err-order.ensures.stopped in
    rw (p.1, p.2) (part, read, inl stop)

pub returns-in_err-content-clause-stopped : goal.returns-in_err-content-clause-stopped
returns-in_err-content-clause-stopped g c =
    let p = err_from_is_err_and c.from_residual-in_err-content.result
    c.from_residual-in_err-content.ensures.1 in
    let (frame, count, stored, read) = c.in_ok-order.ensures.read in
    rw (p.1, p.2) (
      c.read_rest.new.rest.items,
      read,
      stop_at_content (position_of c.args.self.now) (position_of c.read_rest.new.self) _ _
          c.args.head.now c.read_rest.new.rest.items c.read_rest.new.self.block.items
          c.as_slice.result.now c.in_ok-order.order _ c.requires frame count stored
          c.as_slice.ensures.value c.in_ok-order.ensures.kept c.in_err-content.ensures.value,
    )

pub returns-in_err-advance-clause-stopped : goal.returns-in_err-advance-clause-stopped
returns-in_err-advance-clause-stopped g c =
    let p = err_from_is_err_and c.from_residual-in_err-advance.result
    c.from_residual-in_err-advance.ensures.1 in
    let (frame, count, stored, read) = c.in_ok-order.ensures.read in
    rw p.1 (
      c.read_rest.new.rest.items,
      read,
      inl (stop_at_rest (position_of c.args.self.now) _ _ c.args.head.now c.requires
          c.read_rest.new.rest.items c.in_ok-order.order _ frame (inl p.2)),
    )

pub advance-requires : goal.advance-requires
advance-requires g c =
    let (frame, count, stored, read) = c.in_ok-order.ensures.read in
    let fits = length_fits (position_of c.args.self.now) c.args.head.now c.in_ok-order.order frame
    in
    let kept = ap (λ (p : Position). p.offset) c.in_ok-order.ensures.kept in
    omega (
      arith,
      fits,
      count,
      kept,
      ap length stored,
      length-append c.args.head.now c.read_rest.new.rest.items,
    )

pub returns-clause-read : goal.returns-clause-read
returns-clause-read g c =
    let (frame, count, stored, read) = c.in_ok-order.ensures.read in (
      c.read_rest.new.rest.items,
      c.in_ok-advance.ensures.block ∙ stored,
      read,
      moved_over (position_of c.args.self.now) (position_of c.read_rest.new.self)
          (position_of c.advance.new.self) c.args.head.now c.read_rest.new.rest.items
          c.read_rest.new.self.block.items c.advance.new.self.block.items c.as_slice.result.now
          c.in_ok-order.order c.in_ok-content.content c.requires frame count stored
          c.in_ok-advance.ensures.block c.as_slice.ensures.value c.in_ok-order.ensures.kept
          c.in_ok-content.ensures.value c.in_ok-advance.ensures.moved,
    )
