-- The values and the errors of a reply after one more attribute.
use Rattle.std.proofs.Common.{◌≡◌, ◌≢◌, ◌∙◌, ℕ, List, [], ◌∷◌, ◌++◌, Option, Some, None, refl, sym}
use Rattle.std.proofs.Common.{Err, Ok, Result, ap, arith, drop, slice_get, subst}
use Rattle.std.specs.Prelude.{◌==◌, Bool, false, if◌then◌else◌}
use Rattle.std.specs.Prelude.{MatchOption, option_and_then, true}
use Rattle.std.proofs.lemmas.List.{append_assoc, append-nil}
use Rattle.std.specs.List.{filter_map, cons_option}
use Rattle.std.specs.Option.{option_or}
use Rattle.std.specs.Result.{result_ok}
use Rattle.netlink_core.specs.Attribute.{Attribute, IsFramingError, StartsWithAttribute}
use Rattle.netlink_core.specs.Attribute.{attribute_kind}
use Rattle.netlink_core.specs.Errors.{error_code}
use Rattle.netlink_core.specs.declared.error.DecodeError.{DecodeError}
use Rattle.sock_diag_replies.specs.UnixGetters.{first_content_of}
use Rattle.sockdiag_c.specs.Family.{ArePartsOf, SplitsWithError, Family, HasValues}
use Rattle.sockdiag_c.specs.Family.{ReplyParts}
use Rattle.sockdiag_c.specs.Family.{StructRow, error_of_kind, part_in, value_error}
use Rattle.sock_diag_values.specs.declared.inet.mem_info.MemInfo.{MemInfo}
use Rattle.sockdiag_c.specs.Details.{memory_struct}
use Rattle.sockdiag_c.specs.declared.family_values.Memory.{Memory}
use Rattle.sockdiag_c.specs.private.Rows.{AddsParts}

-- ---- the first of several

option_alone : {B : Type 0} (o : Option B) → slice_get (cons_option o []) 0 ≡ o
option_alone o =
    grind arith

first_of_prefix : {B : Type 0} (o p : Option B) (now later : List B)
    → slice_get later 0 ≡ option_or (slice_get now 0) p
    → slice_get (cons_option o later) 0 ≡ option_or (slice_get (cons_option o now) 0) p
first_of_prefix o p now later e =
    grind arith

first_is_none : {B : Type 0} (o : Option B) (later : List B)
    → slice_get (cons_option o later) 0 ≡ None → (o ≡ None) × (slice_get later 0 ≡ None)
first_is_none None later none = (refl, none)
first_is_none (Some x) later none = absurd (grind arith)

pub none_if_not_some : {A : Type 0} (o : Option A) → ((x : A) → o ≡ Some x → ⊥) → o ≡ None
none_if_not_some None not = refl
none_if_not_some (Some x) not = absurd (not x refl)

pub or_none : {A : Type 0} (o : Option A) → option_or o None ≡ o
or_none None = refl
or_none (Some x) = refl

module _ {A B : Type 0} where
  -- the first content of a list with one more element
  pub first_more : (content : A → Option B) (xs : List A) (x : A)
      → first_content_of content (xs ++ x ∷ [])
      ≡ option_or (first_content_of content xs) (content x)
  first_more content [] x = option_alone (content x)
  first_more content (y ∷ ys) x =
      grind (
        arith,
        first_of_prefix (content y) (content x) (filter_map content ys)
            (filter_map content (ys ++ x ∷ [])) (first_more content ys x),
        first_more content ys x,
      )

  -- an element without content changes nothing
  pub first_unchanged : (content : A → Option B) (xs : List A) (x : A) → content x ≡ None
      → first_content_of content xs ≡ first_content_of content (xs ++ x ∷ [])
  first_unchanged content xs x none =
      sym (first_more content xs x
      ∙ ap (option_or (first_content_of content xs)) none
      ∙ or_none (first_content_of content xs))

-- the fields of a row after one more part, or none
part_added : {V D : Type 0} (row : StructRow V D) (old new : D) (o part : Option row.Part)
    → MatchOption part (row.fields new ≡ row.fields old)
    (λ x. (o : Option row.Part) → row.fields old ≡ row.contents o
    → row.fields new ≡ row.contents (option_or o (Some x)))
    → row.fields old ≡ row.contents o → row.fields new ≡ row.contents (option_or o part)
part_added row old new o None same has = same ∙ has ∙ ap row.contents (sym (or_none o))
part_added row old new o (Some x) adds has = adds o has

module _ {V D : Type 0} (read : Attribute → Result V DecodeError) where
  -- the values after one more attribute, which says `v`
  pub values_after : (rows : List (StructRow V D)) (old new : D) (attributes : List Attribute)
      (a : Attribute) (v : V) → read a ≡ Ok v
      → AddsParts rows v (record { old = old; new = new }) → HasValues read rows old attributes
      → HasValues read rows new (attributes ++ a ∷ [])
  values_after [] old new attributes a v is adds has = tt
  values_after (row ∷ others) old new attributes a v is (adds, more) (has, later) = (
    part_added row old new (first_content_of (part_in read row) attributes) (row.part v) adds has
        ∙ sym (ap row.contents (first_more (part_in read row) attributes a
        ∙ ap (λ (r : Result V DecodeError). option_or
        (first_content_of (part_in read row) attributes) (option_and_then row.part (result_ok r)))
        is)),
    values_after others old new attributes a v is more later,
  )

  -- the values after one more attribute, which is rejected
  pub values_unchanged : (rows : List (StructRow V D)) (d : D) (attributes : List Attribute)
      (a : Attribute) (e : DecodeError) → read a ≡ Err e → HasValues read rows d attributes
      → HasValues read rows d (attributes ++ a ∷ [])
  values_unchanged [] d attributes a e is has = tt
  values_unchanged (row ∷ others) d attributes a e is (has, later) = (
    has ∙ ap row.contents (first_unchanged (part_in read row) attributes a
        (ap (λ (r : Result V DecodeError). option_and_then row.part (result_ok r)) is)),
    values_unchanged others d attributes a e is later,
  )

module _ {A : Type 0} where
  -- the first error after one more attribute, which has an error
  pub first_after : (error_of : Attribute → Option A) (xs : List Attribute) (a : Attribute)
      (before : Option A) (e : A)
      → before ≡ first_content_of error_of xs → error_of a ≡ Some e
      → option_or before (Some e) ≡ first_content_of error_of (xs ++ a ∷ [])
  first_after error_of xs a before e was error =
      ap (λ (o : Option A). option_or o (Some e)) was
      ∙ ap (option_or (first_content_of error_of xs)) (sym error)
      ∙ sym (first_more error_of xs a)

if_equal : (o p : Option DecodeError) (t : Bool) → o ≡ p
    → (if t then o else None) ≡ (if t then p else None)
if_equal o p t is = ap (λ (x : Option DecodeError). if t then x else None) is

no_value_if : (o : Option DecodeError) (t : Bool) → o ≡ None → (if t then o else None) ≡ None
no_value_if o true is = is
no_value_if o false is = refl

module _ {D : Type 0} (family : Family D) where
  -- the first error of a kind after an attribute without an error
  pub kind_unchanged : (k : ℕ) (xs : List Attribute) (a : Attribute)
      → value_error family a ≡ None
      → first_content_of (error_of_kind family k) xs
      ≡ first_content_of (error_of_kind family k) (xs ++ a ∷ [])
  kind_unchanged k xs a none = first_unchanged (error_of_kind family k) xs a
      (no_value_if (value_error family a) (attribute_kind a == k) none)

  -- the first error of a kind after an attribute with an error
  pub kind_after : (k : ℕ) (xs : List Attribute) (a : Attribute) (kind : ℕ) (e : DecodeError)
      → value_error family a ≡ Some e → kind ≡ attribute_kind a
      → option_or (first_content_of (error_of_kind family k) xs)
      (if kind == k then Some e else None)
      ≡ first_content_of (error_of_kind family k) (xs ++ a ∷ [])
  kind_after k xs a kind e error is =
      ap (λ (n : ℕ). option_or (first_content_of (error_of_kind family k) xs)
      (if n == k then Some e else None)) is
      ∙ ap (option_or (first_content_of (error_of_kind family k) xs))
      (if_equal _ _ (attribute_kind a == k) (sym error))
      ∙ sym (first_more (error_of_kind family k) xs a)

  -- if no attribute has an error, none of a kind has one
  pub no_error_of_kind : (k : ℕ) (xs : List Attribute)
      → first_content_of (value_error family) xs ≡ None
      → first_content_of (error_of_kind family k) xs ≡ None
  no_error_of_kind k [] none = refl
  no_error_of_kind k (x ∷ xs) none =
      let parts = first_is_none (value_error family x) (filter_map (value_error family) xs) none in
      ap (λ (o : Option DecodeError).
      slice_get (cons_option o (filter_map (error_of_kind family k) xs)) 0)
      (no_value_if (value_error family x) (attribute_kind x == k) parts.0)
      ∙ no_error_of_kind k xs parts.1

-- no error has the code 0
pub code_is_not_zero : (e : DecodeError) → error_code e ≢ 0
code_is_not_zero e =
    grind arith

-- ---- the attributes so far

-- the bytes have the attributes so far, and then those of the bytes left
pub record AttributesSoFar (bytes left : List ℕ) (so_far : List Attribute) : Type 0 where
  pub extend : (later : List Attribute) (end : Option DecodeError) → SplitsWithError later end left
      → SplitsWithError (so_far ++ later) end bytes

pub no_attributes_yet : (bytes left : List ℕ) → left ≡ bytes → AttributesSoFar bytes left []
no_attributes_yet bytes left same = record {
  extend = λ later end h. subst (λ (b : List ℕ). SplitsWithError later end b) same h;
}

first_and_others : (bytes left : List ℕ) (a : Attribute) (later : List Attribute)
    (end : Option DecodeError)
    → StartsWithAttribute bytes a left → SplitsWithError later end left
    → SplitsWithError (a ∷ later) end bytes
first_and_others bytes left a later None start cut = (left, start, cut)
first_and_others bytes left a later (Some e) start (rest, cut, some, error) =
    (rest, (left, start, cut), some, error)

-- the first attribute is at the start of the bytes, and the others follow it
pub first_attribute : (bytes : List ℕ) (a : Attribute) (others : List Attribute)
    (end : Option DecodeError) → SplitsWithError (a ∷ others) end bytes
    → (left : List ℕ) × StartsWithAttribute bytes a left × SplitsWithError others end left
first_attribute bytes a others None (left, start, cut) = (left, start, cut)
first_attribute bytes a others (Some e) (rest, (left, start, cut), some, error) =
    (left, start, (rest, cut, some, error))

pub one_more_attribute : (bytes left rest : List ℕ) (a : Attribute) (so_far : List Attribute)
    → StartsWithAttribute left a rest → AttributesSoFar bytes left so_far
    → AttributesSoFar bytes rest (so_far ++ a ∷ [])
one_more_attribute bytes left rest a so_far start collected = record {
  extend = λ later end h.
      subst (λ (all : List Attribute). SplitsWithError all end bytes)
      (sym (append_assoc so_far (a ∷ []) later))
      (collected.extend (a ∷ later) end (first_and_others left rest a later end start h));
}

pub all_attributes : (bytes left : List ℕ) (so_far : List Attribute) → left ≡ []
    → AttributesSoFar bytes left so_far → SplitsWithError so_far None bytes
all_attributes bytes left so_far none collected =
    subst (λ (all : List Attribute). SplitsWithError all None bytes) (append-nil so_far)
    (collected.extend [] None none)

pub until_framing_error : (bytes left : List ℕ) (so_far : List Attribute) (e : DecodeError)
    → left ≢ [] → IsFramingError left e → AttributesSoFar bytes left so_far
    → SplitsWithError so_far (Some e) bytes
until_framing_error bytes left so_far e some error collected =
    subst (λ (all : List Attribute). SplitsWithError all (Some e) bytes) (append-nil so_far)
    (collected.extend [] (Some e) (left, refl, some, error))

-- ---- memory, and the parts of a reply

-- memory that is not set is set
pub memory_set : (o : Option MemInfo) (old new : Memory) (m : MemInfo)
    → old.receive_queue.is_set ≡ 0 → old ≡ memory_struct o → new ≡ memory_struct (Some m)
    → new ≡ memory_struct (option_or o (Some m))
memory_set None old new m unset was is = is
memory_set (Some x) old new m unset was is =
    absurd (omega (arith, unset, ap (λ (d : Memory). d.receive_queue.is_set) was))

-- the parts of a reply, after its header was parsed into a struct
pub are_parts : {D : Type 0} (family : Family D) (payload rest : List ℕ) (d : D)
    (parts : ReplyParts family.Header)
    → family.parse_header payload ≡ Ok (family.header d) → rest ≡ drop family.header_size payload
    → SplitsWithError parts.attributes parts.framing_error rest → parts.header ≡ family.header d
    → ArePartsOf family payload parts
are_parts family payload rest d parts header same ends is = (
  header ∙ ap Ok (sym is),
  subst (λ (b : List ℕ). SplitsWithError parts.attributes parts.framing_error b) same ends,
)
