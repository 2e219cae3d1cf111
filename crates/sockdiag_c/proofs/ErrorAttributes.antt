-- The attributes of an extended acknowledgement are the end of its payload.
use Rattle.std.proofs.Common.{◌≡◌, ◌↔◌, ◌-◌, ℕ, List, length, drop, inl, inr, arith, refl}
use Rattle.std.proofs.Common.{Option, Some, None, ap, ◌∙◌, length-drop}
use Rattle.std.proofs.lemmas.List.{drop_all}
use Rattle.std.specs.Prelude.{ℤ, IfSome, IsSome, MatchOption, option_map}
use Rattle.sock_diag_extras.specs.Acknowledgement.{ack_attribute_bytes_from}
use Rattle.sock_diag_extras.specs.Models.{ack_attributes, ack_number}
use Rattle.sock_diag_extras.specs.declared.acknowledgement.AckView.{AckView}
use Rattle.sockdiag_c.specs.Answers.{SetsTargetIf, wrong_length}
use Rattle.sockdiag_c.specs.Walks.{bytes_after_cursor}
use Rattle.sockdiag_c.specs.declared.walks.Cursor.{Cursor}

-- a suffix is found by its length
suffix_by_length : (n : ℕ) (bytes : List ℕ)
    → drop (length bytes - length (drop n bytes)) bytes ≡ drop n bytes
suffix_by_length n bytes =
    grind (arith, length-drop, drop_all)

-- the attributes are found by their length
pub attributes_by_length : (flags front : ℕ) (payload attributes : List ℕ)
    → attributes ≡ ack_attribute_bytes_from flags front payload
    → drop (length payload - length attributes) payload ≡ attributes
attributes_by_length flags front payload attributes is =
    grind (arith, suffix_by_length front payload, drop_all (length payload) payload)

-- an acknowledgement is found if it has a number
pub mapped : (found : Option AckView) (number : Option ℤ) → option_map ack_number found ≡ number
    → IsSome found ↔ IsSome number
mapped found number is =
    grind arith

pub pointed : (P : Type 0) (found : Option AckView) (payload attributes : List ℕ)
    (old new : Cursor) (answer : ℕ)
    → MatchOption found ((answer ≡ wrong_length) × (new ≡ old))
    (λ ack. (answer ≡ 0) × (new.offset ≡ length payload - length (ack_attributes ack)))
    → (IsSome found ↔ P)
    → IfSome found (λ ack. ack_attributes ack ≡ attributes)
    → drop (length payload - length attributes) payload ≡ attributes
    → SetsTargetIf P (λ target. bytes_after_cursor payload target ≡ attributes)
    (record { old = old; new = new; returned = answer })
pointed P (Some ack) payload attributes old new answer how whether is suffix =
    inl (
      whether.0 refl,
      how.0,
      ap (λ (n : ℕ). drop n payload)
          (how.1 ∙ ap (λ (a : List ℕ). length payload - length a) is)
          ∙ suffix,
    )
pointed P None payload attributes old new answer how whether is suffix =
    inr (λ p. let some = whether.1 p in absurd cc, how.0, how.1)
