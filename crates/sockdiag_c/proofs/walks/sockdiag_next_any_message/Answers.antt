use Rattle.std.proofs.Common.{◌≡◌, ℕ, ◌-◌, List, length, take, drop, inl, inr, refl, subst}
use Rattle.std.proofs.lemmas.List.{take_rest}
use Rattle.netlink_core.specs.Header.{HasHeader}
use Rattle.sockdiag_c.proofs.Steps.{header_is_framed, message_passed}
use Rattle.sockdiag_c.proofs.walks.sockdiag_next_any_message.Goals as goal

pub returns-in-Ok : goal.returns-in-Ok
returns-in-Ok c =
    let bytes = c.args.datagram.now in
    let offset = c.args.cursor.now.offset in
    let h = c.in-Ok.header in
    let all : take (length bytes - offset) (drop offset bytes) ≡ drop offset bytes =
    take_rest bytes offset in
    let head : HasHeader (drop offset bytes) h =
    subst (λ (b : List ℕ). HasHeader b h) all c.in-Ok.ensures in
    inr (inl (
      refl,
      (
        take h.length (drop offset bytes),
        message_passed bytes offset c.padded.result h head c.padded.ensures,
        header_is_framed (drop offset bytes) offset h head,
        refl,
      ),
    ))
