-- Steps over a datagram that is split into messages.
use Rattle.std.proofs.lemmas.Grind.{common_steps}
use Rattle.std.proofs.Common.{arith}
use Rattle.std.proofs.Common.{◌≡◌, ℕ, inl, inr, List, [], ◌∷◌, subst, sym}
use Rattle.std.specs.Prelude.{Option, Some, None}
use Rattle.netlink_core.specs.Bytes.{IsBytes}
use Rattle.netlink_core.specs.Datagram.{SplitsIntoMessages}
use Rattle.netlink_core.specs.declared.error.DecodeError.{DecodeError}
use Rattle.netlink_core.specs.Errors.{error_code}
use Rattle.netlink_core.proofs.Datagrams.{one_split_into_messages}
use Rattle.netlink_core.proofs.Framing.{one_message_framing_error}
use Rattle.netlink_core.proofs.Items.{items_of, rest_in_range}
use Rattle.netlink_packet_sock_diag.specs.Message.{message_codec}
use Rattle.netlink_packet_sock_diag.specs.laws.Message.{message_laws}
use Rattle.sockdiag_c.specs.declared.results.TheConstants.{END}
use Rattle.sockdiag_c.specs.declared.walks.MessageRange.{MessageRange}
use Rattle.sockdiag_c.specs.Walks.{IterationStep, StepsOverMessage, StoresCheckedMessage}
use Rattle.sockdiag_c.specs.Walks.{bytes_after_step, bytes_before_step}

-- the bytes left by a step are split into messages, and so are the bytes before the step
step_splits_off_message : (step : IterationStep MessageRange)
    → IsBytes (bytes_before_step step) → StoresCheckedMessage step
    → (message : List ℕ) × (later : List (List ℕ)) × (end : Option DecodeError)
    × SplitsIntoMessages (bytes_after_step step) later end
    × SplitsIntoMessages (bytes_before_step step) (message ∷ later) end
step_splits_off_message step in_range s =
    let items = (items_of message_codec message_laws.is_total (bytes_after_step step)
    (rest_in_range (bytes_before_step step) s.0.0 (bytes_after_step step) s.0.1
    in_range)).1 in
    (s.0.0, items.0, items.1, items.3, (bytes_after_step step, s.0.1, items.3))

-- a step returns the first message, and leaves the others
pub step_at_message : (step : IterationStep MessageRange)
    (message : List ℕ) (later : List (List ℕ)) (end : Option DecodeError)
    → IsBytes (bytes_before_step step)
    → SplitsIntoMessages (bytes_before_step step) (message ∷ later) end
    → StepsOverMessage step → StoresCheckedMessage step
    × SplitsIntoMessages (bytes_after_step step) later end
step_at_message step message later end in_range h (inl ends) =
    grind (arith, common_steps, one_split_into_messages)
step_at_message step message later end in_range h (inr (inl s)) =
    let own = step_splits_off_message step in_range s in
    let same = one_split_into_messages (bytes_before_step step) (message ∷ later)
    (own.0 ∷ own.1) end own.2
    h own.4 in
    let others : own.1 ≡ later = let e = same.0 in cc in (
      s,
      subst (λ (e : Option DecodeError). SplitsIntoMessages (bytes_after_step step) later e)
          (sym same.1)
          (subst (λ (xs : List (List ℕ)). SplitsIntoMessages
          (bytes_after_step step) xs own.2) others
          own.3),
    )
step_at_message step message later end in_range h (inr (inr fails)) =
    grind (arith, common_steps, one_split_into_messages)

-- if no message is left, the iteration ends
pub step_at_no_message : (step : IterationStep MessageRange)
    → IsBytes (bytes_before_step step)
    → SplitsIntoMessages (bytes_before_step step) [] None
    → StepsOverMessage step
    → step.returned ≡ END
step_at_no_message step in_range h k =
    grind (
      arith,
      step_splits_off_message step in_range,
      one_split_into_messages (bytes_before_step step),
    )

-- at a framing error, the iteration fails
pub step_at_framing_error : (step : IterationStep MessageRange)
    (e : DecodeError) → IsBytes (bytes_before_step step)
    → SplitsIntoMessages (bytes_before_step step) [] (Some e)
    → StepsOverMessage step
    → (step.returned ≡ error_code e) × (bytes_after_step step ≡ [])
step_at_framing_error step e in_range h k =
    grind (
      arith,
      step_splits_off_message step in_range,
      one_split_into_messages (bytes_before_step step),
      one_message_framing_error (bytes_before_step step),
    )
