use Rattle.std.proofs.Common.{◌≡◌, ◌∙◌, Ok, ap, arith}
use Rattle.sock_diag_filters.specs.AnyRequest.{family_by_byte, inet, netlink, packet, unix, vsock}
use Rattle.sock_diag_filters.specs.AnyRequest.{xdp}
use Rattle.sock_diag_filters.proofs.RequestFamily.{rejected_record, rejected_view}
use Rattle.sock_diag_filters.proofs.any.read_under.Goals as goal

pub returns-in-1-clause-error : goal.returns-in-1-clause-error
returns-in-1-clause-error c =
    rejected_record c.args.message.now c.args.header unix _ c.read.result
    c.map-in-1.result (c.in_ok-family.ensures.family ∙ ap family_by_byte c.in-1.is)
    c.read.ensures.error c.map-in-1.ensures.cases c.map-in-1.ensures.variant

pub returns-in-2-clause-error : goal.returns-in-2-clause-error
returns-in-2-clause-error c =
    let is : family_by_byte c.in_ok-family.family ≡ Ok inet = grind (arith, c.in-2.is) in
    rejected_view c.args.message.now c.args.header _ c.parse.result c.map.result
    (c.in_ok-family.ensures.family ∙ is) c.parse.ensures.error c.map.ensures.cases
    c.map.ensures.variant

pub returns-in-16-clause-error : goal.returns-in-16-clause-error
returns-in-16-clause-error c =
    rejected_record c.args.message.now c.args.header netlink _ c.read-in-16.result
    c.map-in-16.result (c.in_ok-family.ensures.family ∙ ap family_by_byte c.in-16.is)
    c.read-in-16.ensures.error c.map-in-16.ensures.cases c.map-in-16.ensures.variant

pub returns-in-17-clause-error : goal.returns-in-17-clause-error
returns-in-17-clause-error c =
    rejected_record c.args.message.now c.args.header packet _ c.read-in-17.result
    c.map-in-17.result (c.in_ok-family.ensures.family ∙ ap family_by_byte c.in-17.is)
    c.read-in-17.ensures.error c.map-in-17.ensures.cases c.map-in-17.ensures.variant

pub returns-in-40-clause-error : goal.returns-in-40-clause-error
returns-in-40-clause-error c =
    rejected_record c.args.message.now c.args.header vsock _ c.read-in-40.result
    c.map-in-40.result (c.in_ok-family.ensures.family ∙ ap family_by_byte c.in-40.is)
    c.read-in-40.ensures.error c.map-in-40.ensures.cases c.map-in-40.ensures.variant

pub returns-in-44-clause-error : goal.returns-in-44-clause-error
returns-in-44-clause-error c =
    rejected_record c.args.message.now c.args.header xdp _ c.read-in-44.result
    c.map-in-44.result (c.in_ok-family.ensures.family ∙ ap family_by_byte c.in-44.is)
    c.read-in-44.ensures.error c.map-in-44.ensures.cases c.map-in-44.ensures.variant
