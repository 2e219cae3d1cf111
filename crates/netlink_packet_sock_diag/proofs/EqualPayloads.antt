-- `==` of payloads is true if and only if their models are equal.
use Rattle.std.proofs.Common.{arith, ◌≡◌, ◌↔◌, ℕ, List, IsTrue}
use mir.Syntax.{given}
use denote.RattleType.{RattleType}
use Rattle.std.specs.declared.cmp.PartialEq.{Ghosts}
use Rattle.netlink_core.specs.declared.message.NetlinkPayload.{NetlinkPayload}
use Rattle.netlink_core.specs.contracts.message.NetlinkPayloadPartialEq.TheImpl.{ghosts}
use Rattle.netlink_core.specs.NetlinkMessageModel.{payload_model}

-- over the types of inner messages and of bytes, and `==` of them
module _ (I B : RattleType) (i : Ghosts I.Denot) (b : Ghosts B.Denot) {A : Type 0}
    (bytes : B.Denot → List ℕ) (model : I.Denot → A)
    (held : (x y : B.Denot) → IsTrue (b.eq x y) ↔ (bytes x ≡ bytes y))
    (messages : (x y : I.Denot) → IsTrue (i.eq x y) ↔ (model x ≡ model y)) where
  pub payload_equal : (v w : NetlinkPayload I.Denot B.Denot)
      → IsTrue ((ghosts I B i (given 0) b (given 0)).eq v w)
      ↔ (payload_model bytes model v ≡ payload_model bytes model w)
  payload_equal v w = grind (arith, held, messages)
