use Rattle.std.specs.Prelude.{[]}
use Rattle.std.specs.Borrow.{u8}
use mir.Syntax.{named}
use denote.Slice.{ShrSlice}
use lib.Pointwise.{bytes_decides}
use Rattle.netlink_packet_sock_diag.specs.contracts.message.SockDiagView as view
use Rattle.netlink_packet_sock_diag.specs.laws.EqualMessage.{view_equal}
use Rattle.netlink_packet_sock_diag.specs.MessageViewModel.{message_view_model}
use Rattle.netlink_packet_sock_diag.proofs.EqualPayloads.{payload_equal}
use Rattle.netlink_packet_sock_diag.proofs.laws.equal_payload_views.Goals as goal

pub returns : goal.returns
returns c = rw c.eq.ensures (payload_equal (view.the_row (record { mir = named 0; lft = [] }))
    (ShrSlice (named 0) [] u8) _ _ (λ b. b.now) message_view_model
    (λ x y. bytes_decides x.now y.now) view_equal c.args.left.now c.args.right.now)
