-- Lemmas about reporting several texts on a writer.
use Rattle.std.proofs.Common.{◌≡◌, ℕ, Bool, true, false, List, [], ◌++◌, refl, sym, ap, subst, ◌∙◌}
use Rattle.std.proofs.Common.{append_assoc, append-nil, ◌∷◌}
use Rattle.std.specs.Prelude.{Option, ⊤}
use Rattle.std.specs.Io.KnownBytes.{Appends}
use Rattle.std.proofs.KnownBytes.{Appends-nil, Appends-trans}
use Rattle.sslist_texts.specs.Reports.{ReportsText, closing_line}
use Rattle.sslist_texts.specs.Reports.{list_error_text}
use Rattle.sslist_texts.specs.declared.list_error.ListError.{ListError}
use Rattle.sslist_texts.specs.declared.list_error.ListError.TheVariants as errors
use Rattle.program_streams.specs.declared.streams.WriteError.TheVariants.{Closed, Os, Other}

-- `ReportsMore held failed is_open held' failed' is_open' text`: `Reports`, by the members of both
-- states
abbrev pub ReportsMore : Option (List ℕ) → Type 0 → Bool → Option (List ℕ) → Type 0 → Bool
    → List ℕ → Type 0
ReportsMore held failed is_open held' failed' is_open' text =
    (start : Option (List ℕ)) → (before : List ℕ) → ReportsText start held failed before is_open
    → ReportsText start held' failed' (before ++ text) is_open'

-- Two texts that are reported are their concatenation.
pub reports_then : (a b c : Option (List ℕ)) (f g h : Type 0) (o p q : Bool) (x y : List ℕ)
    → ReportsMore a f o b g p x → ReportsMore b g p c h q y → ReportsMore a f o c h q (x ++ y)
reports_then a b c f g h o p q x y first second = λ start before so_far.
    subst (λ (t : List ℕ). ReportsText start c h t q) (append_assoc before x y)
    (second start (before ++ x) (first start before so_far))

-- Reporting the empty text changes nothing.
pub reports_nothing : (a : Option (List ℕ)) (f : Type 0) (o : Bool)
    → ReportsMore a f o a f o []
reports_nothing a f o = λ start before so_far.
    subst (λ (t : List ℕ). ReportsText start a f t o) (sym (append-nil before)) so_far

-- Three texts that are reported are their concatenation.
pub reports_three : (a b c d : Option (List ℕ)) (f g h k : Type 0) (o p q r : Bool)
    (x y z : List ℕ)
    → ReportsMore a f o b g p x → ReportsMore b g p c h q y → ReportsMore c h q d k r z
    → ReportsMore a f o d k r (x ++ y ++ z)
reports_three a b c d f g h k o p q r x y z first second third =
    reports_then a c d f h k o q r (x ++ y) z
    (reports_then a b c f g h o p q x y first second) third

-- A text can be replaced by an equal one.
pub reports_same : (a b : Option (List ℕ)) (f g : Type 0) (o p : Bool) (x y : List ℕ) → x ≡ y
    → ReportsMore a f o b g p x → ReportsMore a f o b g p y
reports_same a b f g o p x y same more =
    subst (λ (t : List ℕ). ReportsMore a f o b g p t) same more

-- The first write that fails has written a prefix.
pub reports_part : (a b : Option (List ℕ)) (g : Type 0) (text sent rest : List ℕ)
    → text ≡ sent ++ rest → Appends a b sent → g → ReportsMore a ⊤ true b g false text
reports_part a b g text sent rest split appended failed = λ start before so_far. (
  before ++ sent,
  rest,
  ap (λ (t : List ℕ). before ++ t) split ∙ sym (append_assoc before sent rest),
  Appends-trans start a b before sent so_far appended,
  failed,
)

-- After a write failed, nothing more is written.
pub reports_none : (a : Option (List ℕ)) (f : Type 0) (text : List ℕ)
    → ReportsMore a f false a f false text
reports_none a f text = λ start before (sent, more, split, appended, failed). (
  sent,
  more ++ text,
  ap (λ (t : List ℕ). t ++ text) split ∙ append_assoc sent more text,
  appended,
  failed,
)

-- A report from the start is the whole report.
pub reports_from_start : (a b : Option (List ℕ)) (f g : Type 0) (p : Bool) (text : List ℕ)
    → ReportsMore a f true b g p text → ReportsText a b g text p
reports_from_start a b f g p text more = more a [] (Appends-nil a)

-- The line of a failure other than a closed pipe is the prefix and its text.
pub closing_other : (front : List ℕ) (e : ListError) → (e ≡ errors.Write Closed → ⊥)
    → closing_line front e ≡ front ++ list_error_text e ++ 10 ∷ []
closing_other front (errors.Write Closed) other = absurd (other refl)
closing_other front (errors.Write (Os code)) other = refl
closing_other front (errors.Write Other) other = refl
closing_other front (errors.Header error) other = refl
closing_other front (errors.Packet packet error) other = refl
closing_other front errors.Memory other = refl
