use Rattle.std.proofs.Common.{◌≡◌, ◌++◌, inl, inr, refl, rules}
use Rattle.std.specs.Prelude.{OnOk}
use Rattle.std.proofs.lemmas.Result.{on_ok_weaker}
use Rattle.sock_diag_lines.specs.AnswerText.{unwritable_text}
use Rattle.sock_diag_lines.proofs.answers.push_canonical.Goals as goal

pub returns-in-Err-Unwritable : goal.returns-in-Err-Unwritable
returns-in-Err-Unwritable g c =
    let C = g.T.HasCodec.codec in
    let value : (v : C.Value) × C.parses c.args.bytes.now c.args.param v × (¬ C.is_writable v) =
    search rules in
    let appended : OnOk c.extend_from_slice.result
    (c.extend_from_slice.new.self.items ≡ c.args.text.now.items ++ unwritable_text) =
    search rules in
    on_ok_weaker c.extend_from_slice.result
    (λ e. (_, e, inl (value.0, value.1, inr (value.2, refl)))) appended
