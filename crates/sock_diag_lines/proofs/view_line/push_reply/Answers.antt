use Rattle.std.proofs.Common.{◌≡◌, ◌∙◌, List, ℕ, [], ◌∷◌, ◌++◌, codes, append_assoc}
use Rattle.std.specs.List.{join_with_byte}
use Rattle.std.proofs.lemmas.Result.{on_ok_weaker}
use Rattle.sock_diag_lines.proofs.ViewLemmas.{joined_by_spaces}
use Rattle.sock_diag_lines.proofs.view_line.push_reply.Goals as goal

thirteen : (old a b c d e f g h i j k l m : List ℕ) → old ++ codes "ok " ++ a ++ 32 ∷ b ++ 32 ∷ c
    ++ 32 ∷ d ++ 32 ∷ e ++ 32 ∷ f ++ 32 ∷ g ++ 32 ∷ h ++ 32 ∷ i ++ 32 ∷ j ++ 32 ∷ k ++ 32 ∷ l
    ++ 32 ∷ m ≡ old ++ (codes "ok " ++ join_with_byte 32 (a ∷ b ∷ c ∷ d ∷ e ∷ f ∷ g ∷ h ∷ i ∷ j ∷ k
    ∷ l ∷ m ∷ []))
thirteen old a b c d e f g h i j k l m =
    joined_by_spaces (old ++ codes "ok ") a (b ∷ c ∷ d ∷ e ∷ f ∷ g ∷ h
    ∷ i ∷ j ∷ k ∷ l ∷ m ∷ []) ∙ append_assoc old (codes "ok ") _

pub returns : goal.returns
returns c = on_ok_weaker c.push_memory.result (λ e. e ∙ rw (
  c.in_ok-push_queues.ensures,
  c.in_ok-push_details.ensures,
  c.in_ok-push_header.ensures,
  c.in_ok-extend_from_slice.ensures.items,
  c.header.ensures,
) (thirteen c.args.text.now.items _ _ _ _ _ _ _ _ _ _ _ _ _)) c.push_memory.ensures
