use Rattle.std.proofs.Common.{◌≡◌, ℕ, List, [], ◌++◌, Option, Result, Ok, Err, inl, inr, refl}
use Rattle.std.proofs.Common.{append-nil, sym}
use Rattle.std.specs.Prelude.{IfErr, OnOk}
use Rattle.std.specs.Io.KnownBytes.{Appends}
use Rattle.program_streams.specs.Streams.{WritesAllOrFails}
use Rattle.program_streams.specs.declared.streams.WriteError.{WriteError}
use Rattle.program_streams.proofs.streams.try_send.Goals as goal

-- what was sent is the whole text, unless a write failed
written_or_failed : (held held' : Option (List ℕ)) (failed : WriteError → Type 0) (text : List ℕ)
    (result : Result (Unit {0}) WriteError) → OnOk result (Appends held held' text)
    → IfErr result (λ e. failed e × (front : List ℕ) × (rest : List ℕ) × (text ≡ front ++ rest)
    × Appends held held' front)
    → WritesAllOrFails held held' ((e : WriteError) × failed e) text
written_or_failed held held' failed text (Ok done) wrote stopped =
    (text, [], sym (append-nil text), wrote, inl refl)
written_or_failed held held' failed text (Err e) wrote (cause, front, rest, split, sent) =
    (front, rest, split, sent, inr (e, cause))

pub returns : goal.returns
returns g c = written_or_failed _ _ _ _ _ c.send.ensures.written c.send.ensures.stopped
