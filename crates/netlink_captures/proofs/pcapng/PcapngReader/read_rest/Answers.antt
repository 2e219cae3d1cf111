use Rattle.std.proofs.Common.{[], arith, inl, inr, sym}
use Rattle.std.proofs.lemmas.Result.{err_from_is_err_and}
use Rattle.std.proofs.KnownBytes.{Consumes-nil}
use Rattle.netlink_captures.specs.Pcapng.{position_of}
use Rattle.netlink_captures.proofs.PcapngLemmas.{stop_at_head, stop_at_rest}
use Rattle.netlink_captures.proofs.pcapng.PcapngReader.read_rest.Goals as goal

pub returns-in_err-order-clause-stopped : goal.returns-in_err-order-clause-stopped
returns-in_err-order-clause-stopped g c =
    let p = err_from_is_err_and c.from_residual.result c.from_residual.ensures.1 in
    rw (p.1, p.2) (
      [],
      Consumes-nil _,
      stop_at_head (position_of c.args.self.now) _ _ c.args.head.now c.requires _
          (sym c.in_err-order.ensures),
    )

pub returns-in_err-read_bytes-clause-stopped : goal.returns-in_err-read_bytes-clause-stopped
returns-in_err-read_bytes-clause-stopped g c =
    let p = err_from_is_err_and c.from_residual-in_err-read_bytes.result
    c.from_residual-in_err-read_bytes.ensures.1 in
    let (part, read, stop) = c.in_err-read_bytes.ensures.stopped in
    rw (p.1, p.2) (
      part,
      read,
      stop_at_rest (position_of c.args.self.now) _ _ c.args.head.now c.requires part
          c.in_ok-order.order _ (sym c.in_ok-order.ensures) (elim stop [
            | inl memory ↦ inl memory.0
            | inr s ↦ inr (omega (arith, s.0, c.u32_at-length.ensures), s.1)
          ]),
    )

pub returns-in_err-store_block-clause-stopped : goal.returns-in_err-store_block-clause-stopped
returns-in_err-store_block-clause-stopped g c =
    let p = err_from_is_err_and c.from_residual-in_err-store_block.result
    c.from_residual-in_err-store_block.ensures.1 in
    rw p.1 (
      c.read_bytes.new.bytes.items,
      c.in_ok-read_bytes.ensures.read.1,
      stop_at_rest (position_of c.args.self.now) _ _ c.args.head.now c.requires
          c.read_bytes.new.bytes.items c.in_ok-order.order _ (sym c.in_ok-order.ensures) (inl p.2),
    )
