use Rattle.std.proofs.Common.{◌≡◌, ◌∙◌, ◌++◌, ℕ, List, length, take, drop, ap, IfOk}
use Rattle.std.proofs.Common.{Result, Ok, Err, arith}
use Rattle.std.proofs.lemmas.List.{append-nil, drop_all, take-append-le, take_all}
use Rattle.netlink_core.specs.Codec.{Codec, KeepsCodecLaws}
use Rattle.netlink_core.proofs.CodecLaws.{one_value}
use Rattle.sock_diag_examples.proofs.reading_back.copy_by_bytes.Goals as goal

-- a value that is parsed from the bytes of a value in normal form is this value
parsed_back : {Param W E : Type 0} (C : Codec Param) → KeepsCodecLaws C → (model : W → C.Value)
    → (returned : Result W E) (b : List ℕ) (p : Param) (v : C.Value) → b ≡ C.serialized v
    → C.is_in_range v → C.is_normal p v → C.is_writable v
    → IfOk returned (λ w. C.parses b p (model w)) → IfOk returned (λ w. model w ≡ v)
parsed_back C laws model (Ok w) b p v same in_range normal writable parsed =
    one_value C laws (C.serialized v) p (model w) v (laws.serialized_in_range v in_range)
    (rw same at parsed) (laws.round_trips p v in_range normal writable)
parsed_back C laws model (Err e) b p v same in_range normal writable parsed = tt

-- a buffer that is as long as the bytes written to its start has only these bytes
written_only : (written old rest : List ℕ) (n : ℕ) → n ≡ length written
    → length old ≡ length written
    → take n ((written ++ drop (length written) old) ++ rest) ≡ written
written_only written old rest n size same =
    ap (λ (tail : List ℕ). take n ((written ++ tail) ++ rest))
    (drop_all (length written) old (omega (arith, same)))
    ∙ ap (λ (xs : List ℕ). take n (xs ++ rest)) (append-nil written)
    ∙ take-append-le n written rest (omega (arith, size))
    ∙ take_all n written (omega (arith, size))

pub returns-clause-equal : goal.returns-clause-equal
returns-clause-equal g c =
    let value = c.args.value.now in
    let wire = g.met.T.Wire in
    let by_codec = wire.bytes_by_codec value in
    parsed_back g.T.HasCodec.codec g.met.T.HasCodec.laws g.T.HasCodec.model c.read.result
    c.deref.result.now c.args.param (g.T.HasCodec.model value)
    ((rw c.emit.ensures.written at c.deref.ensures.value)
    ∙ written_only (g.T.Emitable.bytes value) c.deref_mut.result.now _ c.in_ok-bytes.bytes.len
    (omega (arith, c.in_ok-bytes.ensures.len, c.buffer_len.ensures))
    (omega (arith, c.deref_mut.ensures.len, c.in_ok-bytes.ensures.len, c.buffer_len.ensures))
    ∙ by_codec)
    (wire.in_range_by_codec value c.emit.ensures.in_range) c.requires.normal
    ((wire.writable_by_codec value).0 c.requires.writable) c.read.ensures.value
