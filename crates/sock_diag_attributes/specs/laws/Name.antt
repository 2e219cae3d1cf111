-- The codec laws of the name of a UNIX socket.
use Rattle.std.proofs.lemmas.Grind.{common_steps}
use Rattle.netlink_core.specs.Codec.{KeepsCodecLaws, as_codec}
use Rattle.netlink_core.proofs.AttributeTypeLaws.{whole_value_laws}
use Rattle.sock_diag_attributes.specs.Name.{name_value}
use Rattle.std.proofs.Common.{Ok, Err, IsOk, ◌≡◌, ◌≢◌, ◌∙◌, ℕ, suc, ◌+◌, ◌<◌, ◌==◌, List, [], ◌∷◌}
use Rattle.std.proofs.Common.{◌++◌, length, take, drop, get_or, append_assoc, refl, ap, sym, subst}
use Rattle.std.proofs.Common.{◌-◌, ◌≤◌, arith}
use Rattle.std.specs.Prelude.{All, if◌then◌else◌, Result, slice_index}
use Rattle.std.proofs.lemmas.Bool.{eqb-true, eqb-false, ne_eqb}
use Rattle.std.proofs.lemmas.List.{append-nil, drop_all, get_or-take, length-append, length-take}
use Rattle.std.proofs.lemmas.List.{drop_more, get_or-append-add, take-append-drop}
use Rattle.std.proofs.lemmas.List.{length-take-le, take_rest}
use Rattle.std.specs.List.{position_or_len}
use Rattle.std.proofs.lemmas.List.Sums.{position_or_len_is, split_at_first, passes_at_first}
use Rattle.std.proofs.lemmas.List.Sums.{fails_before_first}
use Rattle.std.proofs.Math.ListN.{get_or-append}
use Rattle.std.proofs.Math.Seq.{take-append_seam}
use Rattle.std.proofs.lemmas.List.Elements.{All-push}
use Rattle.netlink_core.specs.Bytes.{IsBytes}
use Rattle.netlink_core.specs.declared.error.DecodeError.{DecodeError}
use Rattle.netlink_core.specs.declared.error.DecodeError.TheVariants as errors
use Rattle.netlink_core.specs.laws.Byte.{IsBytes-append, IsBytes-cons, IsBytes-nil}
use Rattle.sock_diag_attributes.specs.declared.unix.name.SocketName.{SocketName}
use Rattle.sock_diag_attributes.specs.declared.unix.name.SocketName.TheVariants.{Pathname, Abstract}
use Rattle.sock_diag_attributes.specs.Name.{name_bytes}
use Rattle.sock_diag_attributes.specs.Name.{IsNormalName, parse_name}
use Rattle.sock_diag_attributes.specs.Name.{name_codec}

-- no byte is zero
abbrev pub HasNoZero : List ℕ → Type 0
HasNoZero bytes = All (λ byte. byte ≢ 0) bytes

-- `IsFirstZero bytes index`: the byte at this index is zero, and no byte before it is
abbrev pub IsFirstZero : List ℕ → ℕ → Type 0
IsFirstZero bytes index =
    (index < length bytes) × (slice_index bytes index ≡ 0) × HasNoZero (take index bytes)

-- no error of a name is `Memory`
name_error_is_not_memory : (x : List ℕ) → parse_name x ≡ Err errors.Memory → ⊥
name_error_is_not_memory x h =
    grind arith

-- a parsed name serializes to the bytes that it was parsed from, and is in normal form
name_exact : (x : List ℕ) (u : SocketName (List ℕ)) → parse_name x ≡ Ok u → (x ≡ name_bytes u)
    × IsNormalName u
name_exact (suc n ∷ xs) u h =
    let x : List ℕ = suc n ∷ xs in
    let i : ℕ = position_or_len (λ b. b == 0) x in
    let end : i + 1 ≡ length x = grind arith in
    let same : Pathname (take i x) ≡ u = grind arith in
    let within : i < length x = omega arith in
    let here : get_or x i 0 ≡ 0 = eqb-true _ _ (passes_at_first (λ b. b == 0) x 0 within) in
    let whole : x ≡ take i x ++ 0 ∷ [] =
    cc (split_at_first (λ b. b == 0) x 0 within, drop_all (i + 1) x (omega arith)) in
    rw (← same) (
      whole,
      (
        λ k d l.
            let fails = fails_before_first (λ b. b == 0) x k d in
            grind (arith, get_or-take, length-take, fails, eqb-false),
        λ e. grind (arith, whole, e),
      ),
    )
name_exact x u h = grind arith

-- the path in the bytes, by the index of the first zero byte
abbrev path_at : List ℕ → ℕ → Result (SocketName (List ℕ)) DecodeError
path_at bytes i =
    if i + 1 == length bytes then Ok (Pathname (take i bytes))
    else Err (if i == length bytes then errors.NameWithoutEnd else errors.NameInnerZero i)

-- a name whose first byte is not zero, by the bytes before its first zero byte; these are all of
-- the bytes if there is none
first_zero : (bytes front rest : List ℕ) → bytes ≡ front ++ rest → get_or bytes 0 0 ≢ 0
    → HasNoZero front → get_or rest 0 0 ≡ 0 → parse_name bytes
    ≡ path_at bytes (length front)
first_zero (suc n ∷ xs) front rest parts first none here =
    rw (position_or_len_is (λ b. b == 0) (suc n ∷ xs) (length front) 0
    (omega (arith, ap length parts, length-append front rest))
    (λ k l. rw parts (ne_eqb _ _ (rw get_or-append (none k 0 l))))
    (λ l. grind (arith, parts, get_or-append-add front rest 0 0, here))) refl
first_zero _ front rest parts first none here = absurd (first refl)

-- The three results for such a name, by its last byte and the bytes before it: a zero byte before
-- the last byte, a zero byte only at the end, and no zero byte.
pub parses_inner_zero : (bytes path : List ℕ) (last i : ℕ) → bytes ≡ path ++ last ∷ []
    → get_or bytes 0 0 ≢ 0 → i < length path → get_or path i 0 ≡ 0 → HasNoZero (take i path)
    → parse_name bytes ≡ Err (errors.NameInnerZero i)
parses_inner_zero bytes path last i parts first lt here none =
    first_zero bytes (take i path) (drop i path ++ last ∷ [])
    (rw (← append_assoc, take-append-drop) parts) first none
    (rw (drop_more path i 0 lt) here)
    ∙ grind (arith, ap length parts, length-append, length-take-le)

pub parses_path : (bytes path : List ℕ) → bytes ≡ path ++ 0 ∷ [] → get_or bytes 0 0 ≢ 0
    → HasNoZero path → parse_name bytes ≡ Ok (Pathname path)
parses_path bytes path parts first none =
    grind (arith, first_zero bytes path (0 ∷ []) parts first none, length-append, take-append_seam)

pub parses_no_end : (bytes path : List ℕ) (last : ℕ) → bytes ≡ path ++ last ∷ []
    → get_or bytes 0 0 ≢ 0 → last ≢ 0 → HasNoZero path
    → parse_name bytes ≡ Err errors.NameWithoutEnd
parses_no_end bytes path last parts first some none =
    first_zero bytes bytes [] (sym (append-nil bytes)) first
    (rw parts (All-push (λ b. b ≢ 0) path last none some)) refl ∙ grind arith

-- the lemmas for `NameView::parse`
pub ruleset parse_name_rules = (parses_inner_zero, parses_path, parses_no_end)

-- a name in normal form round-trips
name_round_trips : (u : SocketName (List ℕ)) → IsNormalName u → parse_name (name_bytes u) ≡ Ok u
name_round_trips u good =
    grind (arith, common_steps, parses_path)

-- an accepted name has a first byte
pub accepted_name_has_bytes : (bytes : List ℕ) → IsOk (parse_name bytes) → 1 ≤ length bytes
accepted_name_has_bytes bytes ok = grind (arith)

-- an accepted name whose first byte is not zero is the path before its last byte
pub accepted_name_is_path : (bytes : List ℕ) → get_or bytes 0 0 ≢ 0 → IsOk (parse_name bytes)
    → parse_name bytes ≡ Ok (Pathname (take (length bytes - 1) bytes))
accepted_name_is_path bytes first ok = grind (arith)

-- an accepted name whose first byte is zero is abstract, with the bytes after it
pub accepted_name_is_abstract : (bytes : List ℕ) → get_or bytes 0 0 ≡ 0 → IsOk (parse_name bytes)
    → parse_name bytes ≡ Ok (Abstract (take (length bytes - 1) (drop 1 bytes)))
accepted_name_is_abstract bytes first ok = grind (arith, take_rest bytes 1)

-- the lemmas for `NameView::new`
pub ruleset accepted_name_rules = (
  accepted_name_has_bytes,
  accepted_name_is_path,
  accepted_name_is_abstract,
)

-- a path with a zero byte after it consists of bytes
pub path_bytes_in_range : (path : List ℕ) → IsBytes path → IsBytes (path ++ 0 ∷ [])
path_bytes_in_range path in_range =
    IsBytes-append path (0 ∷ []) in_range (IsBytes-cons 0 [] (omega arith) IsBytes-nil)

-- an address with a zero byte before it consists of bytes
pub address_bytes_in_range : (address : List ℕ) → IsBytes address → IsBytes (0 ∷ address)
address_bytes_in_range address in_range = IsBytes-cons 0 address (omega arith) in_range

-- the lemmas for `emit_name`
pub ruleset name_in_range_rules = (path_bytes_in_range, address_bytes_in_range)

-- a name as the value of an attribute satisfies the codec laws; only equal values are equivalent
pub name_laws : KeepsCodecLaws (as_codec name_value)
name_laws = whole_value_laws parse_name name_bytes (λ u. IsBytes (name_bytes u)) IsNormalName
    name_error_is_not_memory
    (λ x u in_range h. let exact = name_exact x u h in
    (exact.0, subst IsBytes exact.0 in_range, exact.1))
    (λ u in_range. in_range)
    (λ u in_range normal. name_round_trips u normal)

-- a name by itself satisfies the codec laws
pub name_codec_laws : KeepsCodecLaws name_codec
name_codec_laws = record {
  is_total = name_laws.is_total;
  is_exclusive = name_laws.is_exclusive;
  error_is_unique = name_laws.error_is_unique;
  error_is_not_memory = name_laws.error_is_not_memory;
  equal_iff_equivalent = name_laws.equal_iff_equivalent;
  parsed_is_normal = name_laws.parsed_is_normal;
  serialized_in_range = name_laws.serialized_in_range;
  round_trips = λ p v in_range normal room. name_laws.round_trips p v in_range normal tt;
}
