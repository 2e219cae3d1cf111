use Rattle.std.proofs.Common.{inl, List, ℕ, subst, ◌∙◌}
use Rattle.std.proofs.lemmas.Result.{IfOk-weaker, on_ok_weaker}
use Rattle.sslist_lister.specs.Diagnostics.{DiagnosesDatagram}
use Rattle.sslist_lister.specs.Listing.{ListsDatagram}
use Rattle.sslist_lister.specs.Requests.{past_requests}
use Rattle.sslist_lister.proofs.RequestsAfterPacket.{request_of_datagram}
use Rattle.sslist_lister.proofs.Packets.{diagnosed_other, diagnosed_short}
use Rattle.sslist_lister.proofs.list.list_content.Goals as goal

pub returns-in-SockDiag-clause-lists : goal.returns-in-SockDiag-clause-lists
returns-in-SockDiag-clause-lists c =
    let found = c.in-SockDiag.ensures in
    IfOk-weaker c.list_sock_diag.result _ _
    (λ is_clean lists. inl (
      (found.0, found.1),
      subst (λ (d : List ℕ). ListsDatagram c.args.options (past_requests c.args.requests.now)
          c.args.header.now d c.args.written.now.lines.items
          c.list_sock_diag.new.written.lines.items is_clean) found.2 lists,
    ))
    c.list_sock_diag.ensures.lists

pub returns-in-SockDiag-clause-requested : goal.returns-in-SockDiag-clause-requested
returns-in-SockDiag-clause-requested c =
    let found = c.in-SockDiag.ensures in
    on_ok_weaker c.list_sock_diag.result
    (λ noted. noted ∙ request_of_datagram (past_requests c.args.requests.now) c.args.packet.now
    c.in-SockDiag.datagram.now found.0 found.1 found.2)
    c.list_sock_diag.ensures.requested

pub returns-in-SockDiag-clause-diagnosed : goal.returns-in-SockDiag-clause-diagnosed
returns-in-SockDiag-clause-diagnosed c =
    let found = c.in-SockDiag.ensures in
    on_ok_weaker c.list_sock_diag.result
    (λ diagnosed. inl (
      (found.0, found.1),
      subst (λ (d : List ℕ). DiagnosesDatagram c.args.written.now.front.now c.args.number
          c.args.is_whole d c.args.written.now.diagnostics.items
          c.list_sock_diag.new.written.diagnostics.items)
          found.2
          diagnosed,
    ))
    c.list_sock_diag.ensures.diagnosed

pub returns-in-Other-clause-diagnosed : goal.returns-in-Other-clause-diagnosed
returns-in-Other-clause-diagnosed c =
    diagnosed_other _ _ _ _ _ c.in-Other.ensures.0 c.in-Other.ensures.1

pub returns-in_ok-push_short_if_whole-in-Short-clause-diagnosed :
    goal.returns-in_ok-push_short_if_whole-in-Short-clause-diagnosed
returns-in_ok-push_short_if_whole-in-Short-clause-diagnosed c =
    diagnosed_short _ _ _ _ _ _ c.in-Short.ensures
    c.in_ok-push_short_if_whole-in-Short.ensures.diagnostics
