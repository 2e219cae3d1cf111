-- `find_map` over attributes finds the first value of an attribute type.
use Rattle.std.proofs.Common.{Global, Vec, ◌≡◌, ℕ, zero, suc, ◌+◌, ◌<◌, List, [], ◌∷◌, ◌++◌, map}
use Rattle.std.proofs.Common.{length, drop, Option, Some, None, MatchOption, IfSome, IsSome}
use Rattle.std.proofs.Common.{IsSomeAnd, IsTrue, slice_get, Iter, Bor, refl, sym, ap, subst, ◌∙◌}
use Rattle.std.proofs.Common.{arith, take-append-drop}
use Rattle.std.specs.Fn.{Called}
use Rattle.std.specs.Iterator.{YieldsFirstBy}
use Rattle.std.specs.Iterator.Runs.{SomeRun, YieldsRun, AllItemsGive, IsFirstToGive}
use Rattle.std.specs.List.{cons_option}
use Rattle.std.specs.Slice.Iter.{iter_rest, iter_steps}
use Rattle.std.proofs.lemmas.Iterator.{YieldsList}
use Rattle.std.proofs.lemmas.Iterator.Consumers.{YieldsList-so_far, YieldsList-end}
use Rattle.std.proofs.lemmas.Iterator.Consumers.{YieldsList-from_shown, YieldsList-from_first}
use Rattle.attribute_lists.specs.AttributesIn.{decoded_in}
use Rattle.netlink_core.specs.AttributeSet.{AttributeValue, ValueOfKind, value_of_kind}
use Rattle.netlink_core.specs.AttributeSet.{decode_attribute}
use Rattle.netlink_core.specs.declared.attribute.NlaBuffer.{NlaBuffer}
use Rattle.netlink_core.specs.declared.nla.DefaultNla.{DefaultNla}
use Rattle.netlink_core.specs.Walk.{unread_bytes}
use Rattle.sock_diag_attributes.specs.declared.numbers.NumbersView.{NumbersView}
use Rattle.sock_diag_attributes.specs.declared.unix.name.SocketName.{SocketName}
use Rattle.sock_diag_attributes.specs.declared.unix.nlas.UnixNla.{UnixNla}
use Rattle.sock_diag_attributes.specs.UnixModel.{unix_nla_model, unix_nla_view_model}
use Rattle.sock_diag_attributes.specs.UnixAttributes.{unix_attribute_set}
use Rattle.sock_diag_replies.specs.declared.view.AttributeViews.{AttributeViews}
use Rattle.sock_diag_replies.specs.declared.view.ReplyHeader.{Ghosts}
use Rattle.sock_diag_replies.specs.UnixGetters.{first_content_of}
use denote.Param.Members.{Mut}
use lib.ListN.{length-map}

-- a property of the value of an option, if there is one, implies a weaker property
module _ {A : Type 0} {P Q : A → Type 0} (weaker : (x : A) → P x → Q x) where
  if_some : (o : Option A) → IfSome o P → IfSome o Q
  if_some o h =
      grind arith

  some_and : (o : Option A) → IsSomeAnd o P → IsSomeAnd o Q
  some_and o h =
      grind arith

module _ {A B D : Type 0} (content : B → Option D) (model : A → B) where
  some_is_first : (more : List D) (o : Option D) → IsSome o → slice_get (cons_option o more) 0 ≡ o
  some_is_first more o some = grind arith

  -- if no item of the list has a value, there is no first value
  no_item_has_value : (xs : List A)
      → ((k : ℕ) → IfSome (slice_get xs k) (λ x. content (model x) ≡ None))
      → first_content_of content (map model xs) ≡ None
  no_item_has_value [] none = refl
  no_item_has_value (x ∷ xs) none = rw (none 0) (no_item_has_value xs (λ k. none (suc k)))

  -- if the items before index `i` have no value, the first value is that of the item at `i`
  first_value_at : (xs : List A) (i : ℕ) (more : List B) (o : Option D) → IsSome o
      → IsSomeAnd (slice_get xs i) (λ x. content (model x) ≡ o)
      → ((k : ℕ) → k < i → IsSomeAnd (slice_get xs k) (λ x. content (model x) ≡ None))
      → first_content_of content (map model xs ++ more) ≡ o
  first_value_at [] i more o some here none = absurd here
  first_value_at (x ∷ xs) zero more o some here none = rw here (some_is_first _ o some)
  first_value_at (x ∷ xs) (suc i) more o some here none = rw (none 0 (omega arith))
      (first_value_at xs i more o some here (λ k low. none (suc k) (omega arith)))

-- what the contract of `find_map` states of its result
abbrev FindMapReturns : {S A C F : Type 0} (steps : S → Option A → S → Type 0)
    → Mut F (A × Unit {0}) (Option C) → S → F → Option C → Type 0
FindMapReturns steps g s f r =
    SomeRun steps s (λ p. MatchOption r (IsTrue p.whole × AllItemsGive p g f None)
    (λ y. (i : ℕ) × (i < p.len) × (p.len ≡ i + 1) × IsFirstToGive p g f (Some y) None i))

module _ {A B C D F : Type 0} {g : Mut F (A × Unit {0}) (Option C)} {f : F} (model : A → B)
    (content : B → Option D) (result_model : Option C → Option D)
    (none_is_none : result_model None ≡ None)
    (some_is_some : (y : C) → IsSome (result_model (Some y)))
    (call_returns : (x : A) (o : Option C) (q : F) → Called g f (x, tt) o q → (q ≡ f)
    × (result_model o ≡ content (model x))) where
  -- the result of `find_map` over an iterator is the first value among all items that it yields
  first_value_of_iterator : {S : Type 0} {steps : S → Option A → S → Type 0} {s : S} {all : List B}
      → YieldsList steps model s all → (r : Option C) → FindMapReturns steps g s f r
      → result_model r ≡ first_content_of content all
  unfolding YieldsRun
  first_value_of_iterator {steps = steps} {all = all} gives None (p, from, run) =
      let none = run.1 (λ a o q c. (call_returns a.0 o q c).0) in
      let last = p.gave.0.2 run.0 in
      let calls = rw from at p.gave.0.1 in
      let items = (YieldsList-end gives p.items p.gave.0.0 calls None last.0 refl last.1).0 in
      let empty = λ (k : ℕ). rw (p.gave.1 k) at
      (if_some (λ x c. sym (call_returns x None f c).1 ∙ none_is_none) (p.at k) (none k)) in
      rw (← items, no_item_has_value content model p.items empty) none_is_none
  first_value_of_iterator {steps = steps} {all = all} gives (Some y) (p, from, run) =
      let first = run.3 (λ a o q c. (call_returns a.0 o q c).0) in
      let calls = rw from at p.gave.0.1 in
      let rest = drop (length p.items) all in
      let front = YieldsList-so_far gives p.items p.gave.0.0 calls in
      let parts : all ≡ map model p.items ++ rest =
      rw front (sym (take-append-drop (length p.items) all)) in
      let here = rw (p.gave.1 run.0) at
      (some_and (λ x c. sym (call_returns x (Some y) f c).1) (p.at run.0) first.0) in
      let none = λ (k : ℕ) (low : k < run.0). rw (p.gave.1 k) at
      (some_and (λ x c. sym (call_returns x None f c).1 ∙ none_is_none) (p.at k) (first.1 k low)) in
      rw parts
      (sym (first_value_at content model p.items run.0 rest (result_model (Some y)) (some_is_some y)
      here none))

-- the attributes of a UNIX socket, owned and borrowed
abbrev Nla : Type 0
Nla = UnixNla (SocketName (Vec ℕ Global)) (Vec ℕ Global) DefaultNla

abbrev NlaView : Type 0
NlaView = UnixNla (SocketName (Bor (List ℕ))) NumbersView NlaBuffer

-- `find_map` over a list of owned attributes finds the first value of the attribute type `k`
pub first_owned : {C F : Type 0} {g : Mut F (Bor Nla × Unit {0}) (Option C)} {f : F} {s : Iter Nla}
    (k : ℕ) (result_model : Option C → Option (ValueOfKind unix_attribute_set k))
    → result_model None ≡ None → ((y : C) → IsSome (result_model (Some y)))
    → (xs : List Nla) → iter_rest s ≡ xs
    → ((x : Bor Nla) (o : Option C) (q : F) → Called g f (x, tt) o q → (q ≡ f)
    × (result_model o ≡ value_of_kind unix_attribute_set k (unix_nla_model x.now)))
    → (r : Option C) → FindMapReturns iter_steps g s f r
    → result_model r ≡ first_content_of (value_of_kind unix_attribute_set k) (map unix_nla_model xs)
first_owned {s = s} k result_model none_is_none some_is_some xs rest call_returns =
    let yields = YieldsList-from_shown iter_steps (λ x. unix_nla_model x.now)
    (λ j. map unix_nla_model (iter_rest j)) (λ j t h. length-map (iter_rest j) unix_nla_model ∙ h.0)
    (λ j x t h. ap (map unix_nla_model) h) s in
    first_value_of_iterator (λ x. unix_nla_model x.now) (value_of_kind unix_attribute_set k)
    result_model none_is_none some_is_some call_returns
    (subst (λ ys. YieldsList iter_steps (λ x. unix_nla_model x.now) s (map unix_nla_model ys)) rest
    yields)

-- the values of the attributes that the iterator has not yielded yet
abbrev values_left_in : {H : Type 0} {of : Ghosts H} → AttributeViews H of
    → List (AttributeValue unix_attribute_set)
values_left_in views = decoded_in (decode_attribute unix_attribute_set) (unread_bytes views.walk)

-- equal bytes have equal values
pub equal_values : {left right : List ℕ} → left ≡ right
    → decoded_in (decode_attribute unix_attribute_set) left
    ≡ decoded_in (decode_attribute unix_attribute_set) right
equal_values = ap (decoded_in (decode_attribute unix_attribute_set))

-- `find_map` over borrowed attributes finds the first value of the attribute type `k`
pub first_in_view : {H : Type 0} {of : Ghosts H} {C F : Type 0}
    {g : Mut F (NlaView × Unit {0}) (Option C)} {f : F} {s : AttributeViews H of} (k : ℕ)
    (result_model : Option C → Option (ValueOfKind unix_attribute_set k))
    → result_model None ≡ None → ((y : C) → IsSome (result_model (Some y)))
    → (all : List (AttributeValue unix_attribute_set)) → values_left_in s ≡ all
    → ((x : NlaView) (o : Option C) (q : F) → Called g f (x, tt) o q → (q ≡ f)
    × (result_model o ≡ value_of_kind unix_attribute_set k (unix_nla_view_model x)))
    → (r : Option C) → FindMapReturns (YieldsFirstBy unix_nla_view_model values_left_in) g s f r
    → result_model r ≡ first_content_of (value_of_kind unix_attribute_set k) all
first_in_view k result_model none_is_none some_is_some all rest call_returns =
    first_value_of_iterator unix_nla_view_model (value_of_kind unix_attribute_set k) result_model
    none_is_none some_is_some call_returns
    (YieldsList-from_first unix_nla_view_model values_left_in all rest)
