-- A name can be read back from its cell.
use Rattle.std.proofs.Common.{◌≡◌, ℕ, suc, ◌==◌, ◌&&◌, Bool, true, false, List, [], ◌∷◌, ◌++◌}
use Rattle.std.proofs.Common.{inl, inr, refl, sym, ap, subst, ◌∙◌, arith, append_assoc, append-nil}
use Rattle.std.proofs.Common.{length}
use Rattle.std.specs.Prelude.{Some}
use Rattle.std.proofs.lemmas.Bool.{and_parts, cases_Bool, cases_eq, eqb-true, lt-ltb, ne_eqb}
use Rattle.sslist_texts.specs.Escapes.{byte_digits, unescaped_bytes, shown_name}
use Rattle.sslist_texts.proofs.ShownNames.{unescaped_shown_name, unescaped_byte_digits}
use Rattle.sslist_texts.proofs.ShownNames.{unescaped_printable_byte}
use Rattle.netlink_core.specs.Bytes.{IsBytes}
use Rattle.sock_diag_attributes.specs.declared.unix.name.SocketName.TheVariants.{Abstract, Pathname}
use Rattle.sslist_lister.specs.Table.{needs_escaped_first_byte, name_cell, name_of_cell}
use Rattle.sslist_lister.specs.Table.{path_text}

not_false : true ≡ false → ⊥
not_false wrong = cc

and_false : (b : Bool) → (b && false) ≡ false
and_false true = refl
and_false false = refl

unescaped_escaped_path : (utf8 : Bool) (path t : List ℕ) → IsBytes path
    → needs_escaped_first_byte path ≡ true
    → unescaped_bytes 0 (path_text utf8 path ++ t) ≡ path ++ unescaped_bytes 0 t
unescaped_escaped_path utf8 [] t in_range held = cc
unescaped_escaped_path utf8 (p ∷ ps) t in_range held =
    rw held (ap (unescaped_bytes 0) (append_assoc (byte_digits p) (shown_name utf8 ps) t)
    ∙ unescaped_byte_digits p (shown_name utf8 ps ++ t) (in_range 0)
    ∙ ap (λ (l : List ℕ). p ∷ l) (unescaped_shown_name utf8 ps t (λ i. in_range (suc i))))

-- The cell of a path whose first byte is escaped represents the path.
escaped_path_cell : (utf8 : Bool) (path t : List ℕ) → IsBytes path
    → needs_escaped_first_byte path ≡ true
    → unescaped_bytes 0 t ≡ [] → name_of_cell (path_text utf8 path ++ t) ≡ Some (Pathname path)
escaped_path_cell utf8 path t in_range held none =
    let found : unescaped_bytes 0 (path_text utf8 path ++ t) ≡ path =
    unescaped_escaped_path utf8 path t in_range held
    ∙ ap (λ (l : List ℕ). path ++ l) none ∙ append-nil path in
    rw held (ap (λ (l : List ℕ). Some (Pathname l)) (rw held at found))

at_sign_needs_escape : (xs : List ℕ) → needs_escaped_first_byte (64 ∷ xs) ≡ true
at_sign_needs_escape xs = rw (lt-ltb 0 (length (64 ∷ xs)) (omega arith)) refl

unescaped_star : (t : List ℕ) → unescaped_bytes 0 (42 ∷ 32 ∷ t) ≡ 42 ∷ []
unfolding unescaped_bytes
unescaped_star t = refl

-- The cell of a path that begins neither with `@` nor is `*` represents the path.
plain_cell : (text path : List ℕ) → needs_escaped_first_byte path ≡ false
    → unescaped_bytes 0 text ≡ path
    → name_of_cell text ≡ Some (Pathname path)
plain_cell [] path other found = ap (λ (l : List ℕ). Some (Pathname l)) found
plain_cell (c ∷ []) path other found = elim (cases_eq c 64) [
  | inl at ↦
      let begins : 64 ∷ unescaped_bytes 0 [] ≡ path =
      sym (unescaped_printable_byte 64 [] (λ e. omega (arith, e))
      (λ e. omega (arith, e))) ∙ subst (λ (x : ℕ). unescaped_bytes 0 (x ∷ []) ≡ path) at found in
      let wrong = sym (at_sign_needs_escape (unescaped_bytes 0 []))
      ∙ ap needs_escaped_first_byte begins ∙ other in
      absurd (not_false wrong)
  | inr different ↦ rw (ne_eqb c 64 different, and_false (c == 42))
      (ap (λ (l : List ℕ). Some (Pathname l)) found)
]
plain_cell (c ∷ d ∷ text) path other found = elim (cases_eq c 64) [
  | inl at ↦
      let begins : 64 ∷ unescaped_bytes 0 (d ∷ text) ≡ path =
      sym (unescaped_printable_byte 64 (d ∷ text)
      (λ e. omega (arith, e)) (λ e. omega (arith, e)))
      ∙ subst (λ (x : ℕ). unescaped_bytes 0 (x ∷ d ∷ text) ≡ path) at found in
      let wrong = sym (at_sign_needs_escape (unescaped_bytes 0 (d ∷ text)))
      ∙ ap needs_escaped_first_byte begins ∙ other in
      absurd (not_false wrong)
  | inr different ↦ elim (cases_Bool ((c == 42) && (d == 32))) [
    | inl both ↦
        let p = and_parts _ _ both in
        let star : c ≡ 42 = eqb-true c 42 p.0 in
        let space : d ≡ 32 = eqb-true d 32 p.1 in
        let alone : 42 ∷ [] ≡ path = sym (unescaped_star text)
        ∙ subst (λ (x : ℕ). unescaped_bytes 0 (42 ∷ x ∷ text) ≡ path) space
        (subst (λ (x : ℕ). unescaped_bytes 0 (x ∷ d ∷ text) ≡ path) star found) in
        absurd (not_false (ap needs_escaped_first_byte alone ∙ other))
    | inr single ↦ rw (single, ne_eqb c 64 different) (ap (λ (l : List ℕ). Some (Pathname l)) found)
  ]
]

-- The cell of a path represents the path.
pub path_cell : (utf8 : Bool) (path t : List ℕ) → IsBytes path → unescaped_bytes 0 t ≡ []
    → name_of_cell (name_cell utf8 (Some (Pathname path)) ++ t) ≡ Some (Pathname path)
path_cell utf8 path t in_range none = elim (cases_Bool (needs_escaped_first_byte path)) [
  | inl held ↦ escaped_path_cell utf8 path t in_range held none
  | inr other ↦ rw other (plain_cell (shown_name utf8 path
      ++ t) path other (unescaped_shown_name utf8 path t in_range
      ∙ ap (λ (l : List ℕ). path ++ l) none ∙ append-nil path))
]

-- The cell of an abstract name represents the name.
pub abstract_cell : (utf8 : Bool) (address t : List ℕ) → IsBytes address → unescaped_bytes 0 t ≡ []
    → name_of_cell (name_cell utf8 (Some (Abstract address)) ++ t) ≡ Some (Abstract address)
abstract_cell utf8 address t in_range none =
    ap (λ (l : List ℕ). Some (Abstract l)) (unescaped_shown_name utf8 address t in_range
    ∙ ap (λ (l : List ℕ). address ++ l) none ∙ append-nil address)
